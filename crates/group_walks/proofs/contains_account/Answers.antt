-- `group_walks::contains_account` meets its contract: an account is found below the accounts held if it has a list (crate group_rules, GroupLook). Assumes nothing.
use mathlib.Core.Path.{◌∙◌}
use Rattle.group_rules.proofs.GroupLook.{contains_told}
use Rattle.groups.specs.Groups.{table_of}
use Rattle.group_walks.proofs.contains_account.Goals as goal

pub returns : goal.returns
returns c = c.contains_account.ensures ∙ contains_told (table_of c.args.group) c.args.name
