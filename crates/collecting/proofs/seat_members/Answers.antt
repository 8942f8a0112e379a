-- `collecting::seat_members` meets its contract: the members passed have their seat (proofs/Seats.antt, `Seating`). Assumes nothing.
use native.Mathlib.Omega.{arith}
use Rattle.collecting.proofs.Seats.{seat_start, seat_step, seat_end}
use Rattle.collecting.proofs.seat_members.Goals as goal

pub loop-g-init : goal.loop-g-init
loop-g-init c = seat_start _ _ _

pub bounds-seat-from : goal.bounds-seat-from
bounds-seat-from c =
    omega (arith, c.from.ensures, c.requires.by_index c.loop-g.g c.loop-g-test.true)

pub loop-g-preserved : goal.loop-g-preserved
loop-g-preserved c =
    seat_step c.loop-g.invariant c.loop-g-test.true _ c.from.ensures

pub returns : goal.returns
returns c = seat_end c.loop-g.invariant c.loop-g-test.false
