-- `admission::seat_in` meets its contract: by the test. Assumes nothing.
use borrow.Author.Tests.{le-leb, lt-leb}
use Rattle.queues.specs.Append.{seated_c}
use Rattle.admission.proofs.seat_in.Goals as goal

pub returns-then-places-seat : goal.returns-then-places-seat
unfolding seated_c
returns-then-places-seat c =
    let t = le-leb _ _ c.if-places-seat.true in
    record { accounts = rw t c.put_row.ensures; numbers = rw t c.enter.ensures }

pub returns-else-places-seat : goal.returns-else-places-seat
unfolding seated_c
returns-else-places-seat c = let f = lt-leb _ _ c.if-places-seat.false in record { accounts = rw f; numbers = rw f }
