-- `Group::counts` meets its contract: the numbers kept are the counts of what is held (crate group_reads, Looks). Assumes nothing.
use mathlib.Core.Path.{◌∙◌}
use Rattle.group_reads.proofs.Looks.{counts_seen}
use Rattle.groups.specs.Groups.{table_of}
use Rattle.groups.proofs.group.Group.counts.Goals as goal

pub returns : goal.returns
returns c = c.counts.ensures ∙ counts_seen (table_of c.args.self) c.requires
