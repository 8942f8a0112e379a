-- What the loop of `take_out` keeps. See Answers.antt.
use Rattle.buckets.proofs.Single.{Taking}
use Rattle.buckets.proofs.take_out.Given as goal

abbrev pub invariant-loop-i : goal.invariant-loop-i
invariant-loop-i l = Taking l.c l.gone l.initial.buckets l.buckets l.i l.w
