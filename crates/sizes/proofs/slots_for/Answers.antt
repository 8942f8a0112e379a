-- `slots_for` meets its contract: each way out rewrites by the test that led there. Assumes nothing.
use mathlib.Core.Path.{◌≡◌, sym, ◌∙◌}
use mathlib.Core.Bool.{true, false}
use Rattle.rules.specs.Calls.{within as in_range}
use Rattle.sizes.proofs.slots_for.Goals as goal

pub returns-then-within : goal.returns-then-within
returns-then-within c =
    let p : in_range 1 64 c.args.s ≡ true = sym c.within.ensures ∙ c.if-within.true in
    rw p

pub returns-else-within : goal.returns-else-within
returns-else-within c =
    let p : in_range 1 64 c.args.s ≡ false = sym c.within.ensures ∙ c.if-within.false in
    rw p
