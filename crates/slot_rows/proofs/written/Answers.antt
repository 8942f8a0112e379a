-- `slot_rows::written` meets its contract: its fields are those of the record that the visit left. Assumes nothing.
use mathlib.Core.Path.{refl}
use Rattle.slot_rows.proofs.written.Goals as goal

pub returns : goal.returns
returns c = refl
