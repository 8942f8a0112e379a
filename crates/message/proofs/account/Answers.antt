-- `message::account` meets its contract: of another form, the row of zeros that is made is `zeros`. Assumes nothing.
use borrow.Author.Rules.{rules}
use Rattle.numbers.specs.Bytes.{zeros}
use Rattle.message.proofs.account.Goals as goal

pub returns-in-Other : goal.returns-in-Other
unfolding zeros
returns-in-Other c = search rules
