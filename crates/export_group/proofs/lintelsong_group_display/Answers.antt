-- `lintelsong_group_display` meets its contract: the line of the numbers is the line of the group. Assumes nothing.
use mathlib.Core.Path.{refl}
use Rattle.group_reads.proofs.Looks.{displayed}
use Rattle.export_group.specs.Held.{table_of}
use Rattle.export_group.proofs.lintelsong_group_display.Goals as goal

pub returns : goal.returns
returns c = (displayed (table_of c.args.g.now) c.requires c.display.ensures.0 c.display.ensures.1, refl)
