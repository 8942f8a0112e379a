-- `Group::display` meets its contract: the line shows the counts of what is held (crate group_reads, Looks). Assumes nothing.
use Rattle.group_reads.proofs.Looks.{displayed}
use Rattle.groups.specs.Groups.{table_of}
use Rattle.groups.proofs.group.Group.display.Goals as goal

pub returns : goal.returns
returns c =
    displayed (table_of c.args.self) c.requires c.display.ensures.0 c.display.ensures.1
