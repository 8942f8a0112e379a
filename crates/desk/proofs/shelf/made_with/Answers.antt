-- `desk::shelf::made_with` meets its contract: each way out rewrites by the tests that led there. Assumes nothing.
use borrow.Author.Tests.{lt-ltb, le-ltb}
use Rattle.desk.proofs.shelf.made_with.Goals as goal

pub returns-then-place-made : goal.returns-then-place-made
returns-then-place-made c = rw (lt-ltb _ _ c.if-place-made.true)

pub returns-then-place-lt3 : goal.returns-then-place-lt3
returns-then-place-lt3 c = rw (le-ltb _ _ c.if-place-made.false, lt-ltb _ _ c.if-place-lt3.true)

pub returns-else-place-lt3 : goal.returns-else-place-lt3
returns-else-place-lt3 c = rw (le-ltb _ _ c.if-place-made.false, le-ltb _ _ c.if-place-lt3.false)
