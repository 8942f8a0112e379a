-- `group_cores::last_slot` meets its contract: the mark says whether there is a last number (proofs/LastTold.antt). Assumes nothing.
use mathlib.Core.List.{[], ◌∷◌}
use mathlib.Core.Path.{ap, ◌∙◌}
use lib.ListN.{get_or}
use Rattle.numbers.specs.declared.SlotId.{SlotId}
use Rattle.std.specs.Prelude.{is_some}
use Rattle.export_parts.specs.Parts.{bit}
use Rattle.group_cores.proofs.LastTold.{last_marked}
use Rattle.group_cores.proofs.last_slot.Goals as goal

pub returns : goal.returns
returns c =
    let ns = c.args.numbers.now in
    (c.bit_of.ensures ∙ ap bit (c.is_some.ensures ∙ ap is_some c.last_slot.ensures ∙ last_marked (get_or ns 7 0) (get_or ns 6 0)), ap (λ (s : SlotId). s.0 ∷ []) c.last_number.ensures)
