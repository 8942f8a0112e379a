-- `rows::same_row` meets its contract: both rows are the same from a byte on (columns' proofs/Index.antt). Assumes nothing.
use native.Mathlib.Omega.{arith}
use Rattle.columns.proofs.Index.{compare_start, compare_step, compare_differs, compare_end}
use Rattle.rows.proofs.same_row.Goals as goal

pub loop-j-init : goal.loop-j-init
loop-j-init c = compare_start _ _ _ c.requires c.told-x

pub returns-then-col-base : goal.returns-then-col-base
returns-then-col-base c = compare_differs _ _ _ c.requires c.told-x (omega arith) c.if-col-base.true

pub loop-j-preserved : goal.loop-j-preserved
loop-j-preserved c = compare_step _ _ _ c.requires c.told-x c.loop-j.invariant (omega arith) c.if-col-base.false

pub returns : goal.returns
returns c = compare_end _ _ _ c.requires c.told-x c.loop-j.invariant (omega arith)
