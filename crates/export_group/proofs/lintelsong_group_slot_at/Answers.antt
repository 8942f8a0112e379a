-- `lintelsong_group_slot_at` meets its contract: the slot found in the columns is that of the group. Assumes nothing.
use mathlib.Core.Path.{refl, subst}
use Rattle.group_seen.proofs.Looks.{slot_seen}
use Rattle.group_parts.specs.Told.{ToldSlot}
use Rattle.export_group.specs.Held.{table_of}
use Rattle.export_group.proofs.lintelsong_group_slot_at.Goals as goal

pub returns : goal.returns
returns c = (subst (ToldSlot c.slot_at.result c.slot_at.new.out) (slot_seen (table_of c.args.g.now) c.args.position) c.slot_at.ensures, refl)
