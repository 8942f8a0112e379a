-- `Group::is_empty` meets its contract: the slots are as many as their number says (crate group_reads, Looks). Assumes nothing.
use mathlib.Core.Path.{◌∙◌}
use Rattle.group_reads.proofs.Looks.{empty_seen}
use Rattle.groups.specs.Groups.{table_of}
use Rattle.groups.proofs.group.Group.is_empty.Goals as goal

pub returns : goal.returns
returns c = c.is_empty.ensures ∙ empty_seen (table_of c.args.self)
