-- `lintelsong_group_last_slot` meets its contract: the number beside the mark is the last that was given, and 0 without the mark. Assumes
-- nothing.
use mathlib.Core.Path.{refl}
use Rattle.slots.specs.Table.{count}
use Rattle.group_cores.proofs.LastTold.{last_told}
use Rattle.export_group.specs.Held.{table_of}
use Rattle.export_group.proofs.lintelsong_group_last_slot.Goals as goal

pub returns : goal.returns
returns c =
    let t = table_of c.args.g.now in
    (last_told (count t 7) (count t 6) c.requires.unmarked (c.last_slot.ensures).0 (c.last_slot.ensures).1, refl)
