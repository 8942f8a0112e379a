-- `lines::stop_of` meets its contract: the last number ends at LF. Assumes nothing.
use borrow.Author.Tests.{lt-ltb, le-ltb}
use Rattle.lines.proofs.stop_of.Goals as goal

pub returns-then-j-n : goal.returns-then-j-n
returns-then-j-n c = rw (lt-ltb _ _ c.if-j-n.true)

pub returns-else-j-n : goal.returns-else-j-n
returns-else-j-n c = rw (le-ltb _ _ c.if-j-n.false)
