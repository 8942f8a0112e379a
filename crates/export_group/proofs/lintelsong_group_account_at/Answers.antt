-- `lintelsong_group_account_at` meets its contract: the account found in the columns is that of the group. Assumes nothing.
use mathlib.Core.Path.{refl, subst}
use Rattle.group_seen.proofs.Looks.{account_seen}
use Rattle.export_parts.specs.Parts.{Told}
use Rattle.export_group.specs.Held.{table_of}
use Rattle.export_group.proofs.lintelsong_group_account_at.Goals as goal

pub returns : goal.returns
returns c = (subst (Told c.account_at.result c.account_at.new.out) (account_seen (table_of c.args.g.now) c.args.k) c.account_at.ensures, refl)
