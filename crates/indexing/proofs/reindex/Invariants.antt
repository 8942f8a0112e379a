-- What the loop of `reindex` keeps. See Answers.antt.
use Rattle.buckets.proofs.Moving.{Moving}
use Rattle.indexing.proofs.reindex.Given as goal

abbrev pub invariant-loop-i : goal.invariant-loop-i
invariant-loop-i l = Moving l.initial.made l.numbers l.olds l.news l.n l.made l.left l.i
