-- `index::enter` meets its contract: the hash is the last byte of the name. Assumes nothing.
use mathlib.Core.Path.{ap, ◌∙◌}
use Prim.Native.Nat.{ℕ}
use lib.ListN.{drop}
use Rattle.index.specs.Names.{linked_c, with_index}
use Rattle.index.proofs.enter.Goals as goal

pub returns : goal.returns
returns c =
    let a = c.args in
    c.link.ensures ∙ ap (λ (h : ℕ). with_index (linked_c h a.place (drop 16 a.numbers.now)) a.numbers.now) c.from.ensures
