-- `lintelsong_group_check_is_filled` meets its contract: what the buckets and the numbers say is what the group holds. Assumes nothing.
use mathlib.Core.Path.{refl, ap, ◌∙◌}
use Rattle.group_reads.proofs.Looks.{filled_seen}
use Rattle.export_parts.specs.Parts.{bit}
use Rattle.export_group.specs.Held.{table_of}
use Rattle.export_group.proofs.lintelsong_group_check_is_filled.Goals as goal

pub returns : goal.returns
returns c = (c.check_is_filled.ensures ∙ ap bit (filled_seen (table_of c.args.g.now) c.args.asked c.args.height), refl)
