-- `holders::seat_held` meets its contract: a marked place gets the next seat, any other keeps its mark (`Seating` of leaving). Assumes
-- nothing.
use borrow.Author.Tests.{eq-eqb, ne_eqb}
use native.Mathlib.Omega.{arith}
use mathlib.Core.Bool.{not}
use mathlib.Core.Path.{ap}
use Rattle.leaving.proofs.Seating.{seat_start, seat_end, seat_stays, seat_goes}
use Rattle.holders.proofs.seat_held.Goals as goal
use Rattle.holders.proofs.seat_held.Goals.{else-held-p-eq1, then-held-p-eq1}

pub loop-p-init : goal.loop-p-init
loop-p-init c = seat_start _ _ _

pub loop-p-preserved : goal.loop-p-preserved
loop-p-preserved c =
    let l = c.loop-p-test.true in
    elim c.if-held-p-eq1.branch [
      | then-held-p-eq1 w ↦ rw (w.seats-is, w.w-is) (seat_stays c.loop-p.invariant l (omega arith) (ap not (eq-eqb _ _ w.if-held-p-eq1.true)))
      | else-held-p-eq1 w ↦ rw (w.seats-is, w.w-is) (seat_goes c.loop-p.invariant l (omega arith) (ap not (ne_eqb _ _ w.if-held-p-eq1.false)))
    ]

pub returns : goal.returns
returns c = seat_end c.loop-p.invariant c.loop-p-test.false
