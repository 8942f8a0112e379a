-- `group_walks::slot_at` meets its contract: a position below the slots held has a slot, any other has none (crate group_seen, Looks). Assumes nothing.
use mathlib.Core.Path.{◌∙◌}
use Rattle.group_seen.proofs.Looks.{slot_seen, slots_in}
use Rattle.groups.specs.Groups.{table_of}
use Rattle.group_walks.proofs.slot_at.Goals as goal

pub slot_at-requires : goal.slot_at-requires
slot_at-requires c = let t = table_of c.args.group in slots_in t c.requires

pub returns : goal.returns
returns c = c.slot_at.ensures ∙ slot_seen (table_of c.args.group) c.args.position
