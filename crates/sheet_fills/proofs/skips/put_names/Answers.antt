-- `sheet_fills::skips::put_names` meets its contract: after i turns the first i names stand there. Assumes nothing.
use native.Mathlib.Omega.{arith}
use Rattle.sheet_fills.proofs.Laying.{name_more}
use Rattle.sheet_fills.proofs.skips.put_names.Goals as goal

pub loop-i-init : goal.loop-i-init
loop-i-init c = λ j h. absurd (omega arith)

pub loop-i-preserved : goal.loop-i-preserved
loop-i-preserved c =
    rw c.put_row.ensures
    (name_more c.args.cells.now c.loop-i.names _ c.loop-i.i (omega arith) (omega (arith, c.loop-i-test.true, c.requires.1)) c.name_of-name.ensures c.loop-i.invariant)

pub returns : goal.returns
returns c = λ j h. c.loop-i.invariant j (omega (arith, c.loop-i-test.false))
