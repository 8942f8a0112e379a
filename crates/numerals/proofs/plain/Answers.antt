-- `numerals::plain` meets its contract: the length is tested, then the first byte. Assumes nothing.
use borrow.Author.Tests.{lt-ltb, le-ltb}
use Rattle.sheet_rules.specs.Sheet.{plain}
use Rattle.numerals.proofs.plain.Goals as goal

pub returns-then-word-lt2 : goal.returns-then-word-lt2
unfolding plain
returns-then-word-lt2 c = rw (lt-ltb _ _ c.if-word-lt2.true)

pub returns-else-word-lt2 : goal.returns-else-word-lt2
unfolding plain
returns-else-word-lt2 c = rw (le-ltb _ _ c.if-word-lt2.false)
