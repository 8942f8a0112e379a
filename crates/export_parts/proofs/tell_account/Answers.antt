-- `tell_account` meets its contract: the row of zeros that is made is `zeros`. Assumes nothing.
use borrow.Author.Rules.{rules}
use Rattle.numbers.specs.Bytes.{zeros}
use Rattle.export_parts.proofs.tell_account.Goals as goal

pub returns-in_default : goal.returns-in_default
unfolding zeros
returns-in_default c = search rules
