-- `lintelsong_group_counts` meets its contract: what the numbers say is what the group holds. Assumes nothing.
use mathlib.Core.Path.{refl, ap, ◌∙◌}
use Rattle.group_reads.proofs.Looks.{counts_seen}
use Rattle.group_parts.specs.Told.{listed}
use Rattle.export_group.specs.Held.{table_of}
use Rattle.export_group.proofs.lintelsong_group_counts.Goals as goal

pub returns : goal.returns
returns c = (c.counts.ensures.0, c.counts.ensures.1 ∙ ap listed (counts_seen (table_of c.args.g.now) c.requires), refl)
