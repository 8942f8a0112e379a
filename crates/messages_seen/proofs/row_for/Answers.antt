-- `row_for` meets its contract: the account's seat is a row of those held, which are few. Assumes nothing.
use native.Mathlib.Omega.{arith}
use lib.ListN.{get_or}
use Rattle.columns.specs.Rows.{rows_of}
use Rattle.columns.proofs.Index.{index_le}
use Rattle.columns.proofs.Rows.{length_rows}
use Rattle.messages_seen.proofs.row_for.Goals as goal

pub overflow_cast-seat : goal.overflow_cast-seat
overflow_cast-seat c =
    let x = c.args.name in
    let n = get_or c.args.numbers.now 2 0 in
    omega (arith, c.find_row-seat.ensures, index_le x x (rows_of n c.args.accounts.now), length_rows n c.args.accounts.now)
