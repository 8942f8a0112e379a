-- What the loop of `count_internals` keeps. See Answers.antt.
use Rattle.leftover.proofs.Internals.{Counting}
use Rattle.leftover.proofs.count_internals.Given as goal

abbrev pub invariant-loop-i : goal.invariant-loop-i
invariant-loop-i l = Counting l.kind l.n l.i l.count
