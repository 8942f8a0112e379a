-- What the loop of `count_owned` keeps. See Answers.antt.
use mathlib.Core.Path.{◌≡◌}
use Prim.Native.Nat.{◌+◌, ◌-◌, ◌≤◌}
use lib.Dec.{eqb}
use lib.ListN.{drop}
use Rattle.columns.specs.Lists.{count_i}
use Rattle.packing.proofs.count_owned.Given as goal

abbrev pub invariant-loop-i : goal.invariant-loop-i
invariant-loop-i l = (l.i ≤ l.n) × (l.count ≤ l.i) × (l.count + count_i (λ j o. eqb o l.p) (l.n - l.i) l.i (drop l.i l.owner) ≡ count_i (λ j o. eqb o l.p) l.n 0 l.owner)
