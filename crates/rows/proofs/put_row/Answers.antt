-- `rows::put_row` meets its contract: the loop lays the row over the column (columns' proofs/Lays.antt). Assumes nothing.
use mathlib.Core.Path.{refl, ◌∙◌}
use native.Mathlib.Omega.{arith}
use lib.Seq.{take_all}
use Rattle.columns.proofs.Lays.{lay_start, lay_step, lay_end}
use Rattle.rows.proofs.put_row.Goals as goal

pub loop-k-init : goal.loop-k-init
loop-k-init c = lay_start _ _ _ _

pub loop-k-preserved : goal.loop-k-preserved
loop-k-preserved c = lay_step c.loop-k.invariant (omega (arith, c.told-x)) 0 c.requires (omega arith) _ refl

pub returns : goal.returns
returns c = lay_end c.loop-k.invariant (omega (arith, c.told-x)) (omega arith) ∙ rw (take_all 32 c.args.x.now (omega (arith, c.told-x))) refl
