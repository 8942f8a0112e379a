-- `within` meets its contract: each way out of the `&&` rewrites by the test that led there. Assumes nothing.
use borrow.Author.Tests.{le-leb, lt-leb}
use Rattle.rules.specs.Calls.{within as in_range}
use Rattle.sizes.proofs.within.Goals as goal

pub returns-then-n-ge1 : goal.returns-then-n-ge1
unfolding in_range
returns-then-n-ge1 c = rw (le-leb _ _ c.if-n-ge1.true)

pub returns-else-n-ge1 : goal.returns-else-n-ge1
unfolding in_range
returns-else-n-ge1 c = rw (lt-leb _ _ c.if-n-ge1.false)
