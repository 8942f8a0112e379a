-- `lintelsong_group_contains_account` meets its contract: an account has a list if it has a seat. Assumes nothing.
use mathlib.Core.Path.{refl, ap, ◌∙◌}
use Rattle.group_rules.proofs.GroupLook.{contains_told}
use Rattle.export_parts.specs.Parts.{bit}
use Rattle.export_group.specs.Held.{table_of}
use Rattle.export_group.proofs.lintelsong_group_contains_account.Goals as goal

pub returns : goal.returns
returns c = (c.contains_account.ensures ∙ ap bit (contains_told (table_of c.args.g.now) c.args.name.now), refl)
