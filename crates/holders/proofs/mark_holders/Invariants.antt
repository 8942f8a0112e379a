-- What the loop of `mark_holders` keeps. See Answers.antt.
use Rattle.holders.proofs.Seats.{Marking}
use Rattle.holders.proofs.mark_holders.Given as goal

abbrev pub invariant-loop-i : goal.invariant-loop-i
invariant-loop-i l = Marking l.owner l.n l.initial.held l.held l.i
