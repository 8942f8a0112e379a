-- `seen_at` meets its contract: a row below the accounts held has an account, any other has none (crate skipped, Walk). Assumes nothing.
use Rattle.skipped.proofs.Walk.{account_is, account_missing}
use Rattle.skipped_cores.proofs.seen_at.Goals as goal

pub returns-then-position-held : goal.returns-then-position-held
returns-then-position-held c =
    let a = c.args in
    rw c.get_row.ensures (account_is a.held a.accounts.now a.position c.if-position-held.true)

pub returns-else-position-held : goal.returns-else-position-held
returns-else-position-held c = let a = c.args in account_missing a.held a.accounts.now a.position c.if-position-held.false
