-- `skipped_cores::contains` meets its contract: an account is found below the accounts held if it is among them (crate skipped, Walk). Assumes nothing.
use mathlib.Core.Path.{ap, ◌∙◌}
use Prim.Native.Nat.{ℕ}
use lib.Dec.{ltb}
use Rattle.export_parts.specs.Parts.{bit}
use Rattle.skipped.proofs.Walk.{has_row}
use Rattle.skipped_cores.proofs.contains.Goals as goal

pub returns : goal.returns
returns c =
    let a = c.args in
    let n = a.held.now in
    c.bit_of.ensures ∙ ap (λ (k : ℕ). bit (ltb k n)) c.find_row-at.ensures ∙ ap bit (has_row a.name.now n a.accounts.now)
