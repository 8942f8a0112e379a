-- `indexing::moved` meets its contract: put last in the one bucket, and, where another slot left it before, taken out of the other.
-- Assumes nothing.
use Rattle.buckets.specs.Moves.{moved_on}
use Rattle.indexing.proofs.moved.Goals as goal

pub returns-then-again : goal.returns-then-again
unfolding moved_on
returns-then-again c =
    rw (c.if-again.true, ← c.put_last.ensures.holds) c.take_out.ensures

pub returns-else-again : goal.returns-else-again
unfolding moved_on
returns-else-again c = rw c.if-again.false c.put_last.ensures
