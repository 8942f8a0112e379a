-- What the loop of `seat_members` keeps. See Answers.antt.
use Rattle.collecting.proofs.Seats.{Seating}
use Rattle.collecting.proofs.seat_members.Given as goal

abbrev pub invariant-loop-g : goal.invariant-loop-g
invariant-loop-g l = Seating l.member l.n l.initial.seat l.seat l.g
