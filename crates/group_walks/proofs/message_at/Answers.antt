-- `group_walks::message_at` meets its contract: the row found is the k-th that the account's seat owns (crate group_seen, Looks). Assumes nothing.
use mathlib.Core.Path.{◌∙◌}
use Rattle.group_seen.proofs.Looks.{message_seen}
use Rattle.groups.specs.Groups.{table_of}
use Rattle.group_walks.proofs.message_at.Goals as goal

pub returns : goal.returns
returns c = c.message_at.ensures ∙ message_seen (table_of c.args.group) c.requires c.args.name c.args.k
