-- What the loop of `cut::first` keeps. See Answers.antt.
use mathlib.Core.Path.{◌≡◌}
use mathlib.Core.Bool.{Bool, not}
use Prim.Native.Nat.{ℕ}
use Rattle.words.proofs.Passing.{Passing}
use Rattle.words.proofs.cut.first.Given as goal

abbrev pub invariant-loop-i : goal.invariant-loop-i
invariant-loop-i g l = (passed : ℕ → Bool) → ((b : ℕ) (r : Bool) → goal.F-post g l.test b r → passed b ≡ not r) → Passing passed l.from l.s l.i
