-- What the loop of `none_below` keeps. See Answers.antt.
use Rattle.buckets.proofs.Below.{Passing}
use Rattle.buckets.proofs.none_below.Given as goal

abbrev pub invariant-loop-c : goal.invariant-loop-c
invariant-loop-c l = Passing l.buckets l.height l.c
