-- What the loop of `seat_unnamed` keeps. See Answers.antt.
use Rattle.queues.specs.Compact.{named_c}
use Rattle.leaving.proofs.Seating.{Seating}
use Rattle.leaving.proofs.seat_unnamed.Given as goal

abbrev pub invariant-loop-p : goal.invariant-loop-p
invariant-loop-p l = Seating (named_c l.names l.k l.accounts) l.a l.initial.seats l.seats l.p l.w
