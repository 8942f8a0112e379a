-- `sheet_rows::message_of` meets its contract: each field is read from its cell. Assumes nothing.
use Rattle.sheet_rows.proofs.Saying.{message_made, flag_0, flag_1}
use Rattle.sheet_rows.proofs.message_of.Goals as goal
use Rattle.sheet_rows.proofs.message_of.Goals.{then-cells-row-eq0, else-cells-row-eq0}

pub returns : goal.returns
returns c =
    let a = c.args in
    message_made a.cells.now a.i
    (elim c.if-cells-row-eq0.branch [
      | then-cells-row-eq0 w ↦ flag_0 w.if-cells-row-eq0.true w.kind-is
      | else-cells-row-eq0 w ↦ flag_1 w.if-cells-row-eq0.false w.kind-is
    ]) c.name_of-address.ensures c.name_of-hash.ensures
