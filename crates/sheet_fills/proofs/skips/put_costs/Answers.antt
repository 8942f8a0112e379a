-- `sheet_fills::skips::put_costs` meets its contract: after i turns the first i costs stand there. Assumes nothing.
use mathlib.Core.Path.{refl}
use Prim.Native.Nat.{◌+◌, ◌*◌}
use native.Mathlib.Omega.{arith}
use lib.ListN.{get_or}
use Rattle.sheet_fills.proofs.Laying.{cell_more}
use Rattle.sheet_fills.proofs.skips.put_costs.Goals as goal

pub loop-i-init : goal.loop-i-init
loop-i-init c = λ j h. absurd (omega arith)

pub loop-i-preserved : goal.loop-i-preserved
loop-i-preserved c =
    cell_more (λ j. get_or c.args.cells.now (3 * j + 2) 0) c.loop-i.costs c.loop-i.i _ (omega (arith, c.requires.1, c.loop-i-test.true)) refl c.loop-i.invariant

pub returns : goal.returns
returns c = λ j h. c.loop-i.invariant j (omega (arith, c.loop-i-test.false))
