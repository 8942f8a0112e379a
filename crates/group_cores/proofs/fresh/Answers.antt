-- `fresh` meets its contract: every column is one repeat expression, and the buckets are cleared. Assumes nothing.
use Rattle.slots.specs.Join.{fresh_t}
use Rattle.group_cores.proofs.fresh.Goals as goal

pub returns : goal.returns
unfolding fresh_t
returns c = rw c.clear_buckets.ensures
