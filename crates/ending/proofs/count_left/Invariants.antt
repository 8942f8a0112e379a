-- What the loop of `count_left` keeps. See Answers.antt.
use mathlib.Core.Path.{◌≡◌}
use Prim.Native.Nat.{◌+◌, ◌-◌, ◌≤◌}
use lib.Dec.{ltb}
use lib.ListN.{drop}
use Rattle.columns.specs.Lists.{count_i}
use Rattle.meaning.specs.Passes.{left_c}
use Rattle.ending.proofs.count_left.Given as goal

abbrev pub invariant-loop-i : goal.invariant-loop-i
invariant-loop-i l =
    (l.i ≤ l.rows) × (l.count ≤ l.i) × (l.count + count_i (λ j o. ltb o l.places) (l.rows - l.i) l.i (drop l.i l.owner) ≡ left_c l.rows l.places l.owner)
