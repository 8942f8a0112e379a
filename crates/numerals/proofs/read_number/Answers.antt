-- `numerals::read_number` meets its contract: the word up to the first stop byte is read, if there is one (proofs/Words.antt).
-- Assumes nothing.
use Rattle.numerals.proofs.Words.{unended, ended}
use Rattle.numerals.proofs.read_number.Goals as goal

pub returns-then-text-to : goal.returns-then-text-to
returns-then-text-to c = unended _ c.args.from c.args.stop c.args.limit _ c.requires c.until-to.ensures c.if-text-to.true

pub returns : goal.returns
returns c = rw c.bounded.ensures (ended _ c.args.from c.args.stop c.args.limit _ c.requires c.until-to.ensures c.if-text-to.false)
