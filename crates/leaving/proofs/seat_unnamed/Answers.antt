-- `leaving::seat_unnamed` meets its contract: an account that is found among the names keeps its mark, any other gets the next seat
-- (proofs/Seating.antt, `Seating`). Assumes nothing.
use native.Mathlib.Omega.{arith}
use Rattle.leaving.proofs.Seating.{seat_start, seat_end, seat_stays, seat_goes, named, unnamed}
use Rattle.leaving.proofs.seat_unnamed.Goals as goal
use Rattle.leaving.proofs.seat_unnamed.Goals.{else-stays, then-stays}

pub loop-p-init : goal.loop-p-init
loop-p-init c = seat_start _ _ _

pub loop-p-preserved : goal.loop-p-preserved
loop-p-preserved c =
    let a = c.args in
    let v = c.loop-p.invariant in
    let l = c.loop-p-test.true in
    let row = c.get_row-x.ensures in
    let found = c.find_row.ensures in
    elim c.if-stays.branch [
      | then-stays w ↦ rw (w.seats-is, w.w-is) (seat_stays v l (omega arith) (unnamed a.names.now a.k a.accounts.now c.loop-p.p _ _ row found w.if-stays.true))
      | else-stays w ↦ rw (w.seats-is, w.w-is) (seat_goes v l (omega arith) (named a.names.now a.k a.accounts.now c.loop-p.p _ _ row found w.if-stays.false))
    ]

pub returns : goal.returns
returns c = seat_end c.loop-p.invariant c.loop-p-test.false
