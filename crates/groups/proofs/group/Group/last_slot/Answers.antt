-- `Group::last_slot` meets its contract: the mark says whether there is a last number, which is 0 without it (crate group_reads, Looks). Assumes nothing.
use mathlib.Core.Path.{◌∙◌}
use Rattle.group_reads.proofs.Looks.{last_seen}
use Rattle.groups.specs.Groups.{table_of}
use Rattle.groups.proofs.group.Group.last_slot.Goals as goal

pub returns : goal.returns
returns c = c.last_slot.ensures ∙ last_seen (table_of c.args.self)
