-- `group_walks::slot_account_at` meets its contract: the row found is the k-th account whose home is the slot (crate group_seen, Looks). Assumes nothing.
use mathlib.Core.Path.{◌∙◌}
use Rattle.group_seen.proofs.Looks.{slot_account_seen}
use Rattle.groups.specs.Groups.{table_of}
use Rattle.group_walks.proofs.slot_account_at.Goals as goal

pub returns : goal.returns
returns c = c.slot_account_at.ensures ∙ slot_account_seen (table_of c.args.group) c.requires c.args.position c.args.k
