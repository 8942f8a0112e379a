-- What the loop of `move_owners` keeps. See Answers.antt.
use Rattle.queues.specs.Compact.{new_place}
use Rattle.owners.proofs.Passing.{Passing}
use Rattle.compacting.proofs.move_owners.Given as goal

abbrev pub invariant-loop-o : goal.invariant-loop-o
invariant-loop-o l = Passing (new_place l.seats) l.n l.initial.o-items l.o-items l.o-index
