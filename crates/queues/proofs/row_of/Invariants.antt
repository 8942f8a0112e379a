-- What the loop of `row_of` keeps. See Answers.antt.
use Rattle.queues.proofs.Seeking.{Seeking}
use Rattle.queues.proofs.row_of.Given as goal

abbrev pub invariant-loop-i : goal.invariant-loop-i
invariant-loop-i l = Seeking l.owner l.n l.p l.k l.i l.behind
