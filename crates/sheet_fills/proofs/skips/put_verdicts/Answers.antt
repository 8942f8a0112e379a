-- `sheet_fills::skips::put_verdicts` meets its contract: after i turns the first i verdicts stand there. Assumes nothing.
use mathlib.Core.Bool.{cond}
use Prim.Native.Nat.{◌+◌, ◌*◌}
use native.Mathlib.Omega.{arith}
use lib.ListN.{get_or}
use lib.Dec.{eqb}
use Rattle.sheet_rows.proofs.Saying.{flag_0, flag_1}
use Rattle.sheet_fills.proofs.Laying.{cell_more}
use Rattle.sheet_fills.proofs.skips.put_verdicts.Goals as goal
use Rattle.sheet_fills.proofs.skips.put_verdicts.Goals.{then-cells-i-eq0, else-cells-i-eq0}

pub loop-i-init : goal.loop-i-init
loop-i-init c = λ j h. absurd (omega arith)

pub loop-i-preserved : goal.loop-i-preserved
loop-i-preserved c =
    cell_more (λ j. cond (eqb (get_or c.args.cells.now (3 * j + 1) 0) 0) 0 1) c.loop-i.verdicts c.loop-i.i _ (omega (arith, c.requires.1, c.loop-i-test.true))
    (elim c.if-cells-i-eq0.branch [
      | then-cells-i-eq0 w ↦ flag_0 w.if-cells-i-eq0.true w.verdicts-is
      | else-cells-i-eq0 w ↦ flag_1 w.if-cells-i-eq0.false w.verdicts-is
    ])
    c.loop-i.invariant

pub returns : goal.returns
returns c = λ j h. c.loop-i.invariant j (omega (arith, c.loop-i-test.false))
