-- What the loop of `lost_externals` keeps. See Answers.antt.
use Rattle.leaving.proofs.Seating.{Losing}
use Rattle.leaving.proofs.lost_externals.Given as goal

abbrev pub invariant-loop-i : goal.invariant-loop-i
invariant-loop-i l = Losing l.seats l.kind l.n l.owner l.i l.count
