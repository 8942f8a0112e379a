-- `lintelsong_group_is_empty` meets its contract: what the numbers say is what the group holds. Assumes nothing.
use mathlib.Core.Path.{refl, ap, ◌∙◌}
use Rattle.group_reads.proofs.Looks.{empty_seen}
use Rattle.export_parts.specs.Parts.{bit}
use Rattle.export_group.specs.Held.{table_of}
use Rattle.export_group.proofs.lintelsong_group_is_empty.Goals as goal

pub returns : goal.returns
returns c = (c.is_empty.ensures ∙ ap bit (empty_seen (table_of c.args.g.now)), refl)
