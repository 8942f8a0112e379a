-- `group_walks::account_at` meets its contract: a row below the accounts held has an account, any other has none (crate group_seen, Looks). Assumes nothing.
use mathlib.Core.Path.{◌∙◌}
use Rattle.group_seen.proofs.Looks.{account_seen}
use Rattle.groups.specs.Groups.{table_of}
use Rattle.group_walks.proofs.account_at.Goals as goal

pub returns : goal.returns
returns c = c.account_at.ensures ∙ account_seen (table_of c.args.group) c.args.k
