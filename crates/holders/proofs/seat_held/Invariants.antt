-- What the loop of `seat_held` keeps. See Answers.antt.
use mathlib.Core.Bool.{not}
use lib.Dec.{eqb}
use lib.ListN.{get_or}
use Rattle.leaving.proofs.Seating.{Seating}
use Rattle.holders.proofs.seat_held.Given as goal

abbrev pub invariant-loop-p : goal.invariant-loop-p
invariant-loop-p l = Seating (λ q. not (eqb (get_or l.held q 0) 1)) l.a l.initial.seats l.seats l.p l.w
