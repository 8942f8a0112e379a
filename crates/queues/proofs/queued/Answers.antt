-- `queues::queued` meets its contract: the seat of the account is at most the number of accounts, so it fits. Assumes nothing.
use mathlib.Core.Path.{ap, ◌∙◌}
use native.Mathlib.Omega.{arith}
use Rattle.columns.specs.Rows.{rows_of}
use Rattle.columns.proofs.Index.{index_le}
use Rattle.columns.proofs.Rows.{length_rows}
use Rattle.queues.specs.Look.{owned_by}
use Rattle.queues.proofs.queued.Reads as reads
use Rattle.queues.proofs.queued.Lts as lts
use Rattle.queues.proofs.queued.Goals as goal

pub overflow_cast-seat : goal.overflow_cast-seat
overflow_cast-seat c =
    let a = c.args in
    omega (arith, c.find_row-seat.ensures, index_le a.x.now a.x.now (rows_of a.a a.accounts.now), length_rows a.a a.accounts.now)

pub returns : goal.returns
returns c =
    let a = c.args in
    c.count_owned.ensures ∙ ap (owned_by a.owner.now a.n) c.find_row-seat.ensures
