-- `lintelsong_group_message_at` meets its contract: the message found in the columns is that of the list. Assumes nothing.
use mathlib.Core.Path.{refl, subst}
use Rattle.group_seen.proofs.Looks.{message_seen}
use Rattle.export_parts.specs.Parts.{ToldMessage}
use Rattle.export_group.specs.Held.{table_of}
use Rattle.export_group.proofs.lintelsong_group_message_at.Goals as goal

pub returns : goal.returns
returns c = (subst (ToldMessage c.message_at.result c.message_at.new.facts c.message_at.new.to c.message_at.new.hashed) (message_seen (table_of c.args.g.now) c.requires c.args.name.now c.args.k) c.message_at.ensures, refl)
