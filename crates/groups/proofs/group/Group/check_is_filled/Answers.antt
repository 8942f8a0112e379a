-- `Group::check_is_filled` meets its contract: by the slots held and the buckets below the height (crate group_reads, Looks). Assumes nothing.
use mathlib.Core.Path.{◌∙◌}
use Rattle.group_reads.proofs.Looks.{filled_seen}
use Rattle.groups.specs.Groups.{table_of}
use Rattle.groups.proofs.group.Group.check_is_filled.Goals as goal

pub returns : goal.returns
returns c = c.check_is_filled.ensures ∙ filled_seen (table_of c.args.self) c.args.asked c.args.height
