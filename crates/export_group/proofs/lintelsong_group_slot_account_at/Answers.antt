-- `lintelsong_group_slot_account_at` meets its contract: the account found in the columns is that of the slot. Assumes nothing.
use mathlib.Core.Path.{refl, subst}
use Rattle.group_seen.proofs.Looks.{slot_account_seen}
use Rattle.export_parts.specs.Parts.{Told}
use Rattle.export_group.specs.Held.{table_of}
use Rattle.export_group.proofs.lintelsong_group_slot_account_at.Goals as goal

pub returns : goal.returns
returns c = (subst (Told c.slot_account_at.result c.slot_account_at.new.out) (slot_account_seen (table_of c.args.g.now) c.requires c.args.position c.args.k) c.slot_account_at.ensures, refl)
