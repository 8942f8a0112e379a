-- `sheet_rows::asked_of` meets its contract: each number is read from its cell, and a filter of 0 is off. Assumes nothing.
use Rattle.sheet_rows.proofs.Saying.{asked_off, asked_below}
use Rattle.sheet_rows.proofs.asked_of.Goals as goal

pub returns-then-cells-row-eq0 : goal.returns-then-cells-row-eq0
returns-then-cells-row-eq0 c = let a = c.args in asked_off a.cells.now a.i c.if-cells-row-eq0.true

pub returns-else-cells-row-eq0 : goal.returns-else-cells-row-eq0
returns-else-cells-row-eq0 c = let a = c.args in asked_below a.cells.now a.i c.if-cells-row-eq0.false
