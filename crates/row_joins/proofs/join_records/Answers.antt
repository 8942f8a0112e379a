-- `row_joins::join_records` meets its contract: what the two loops leave. Assumes nothing.
use Rattle.row_joins.proofs.join_records.Goals as goal

pub returns : goal.returns
returns c = record { address = c.lay.ensures; hash = c.lay-2.ensures }
