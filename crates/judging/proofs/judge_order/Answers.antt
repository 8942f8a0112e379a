-- `judging::judge_order` meets its contract: the loop lays the tables of marks and costs over the columns (proofs/Judging.antt).
-- Assumes nothing.
use native.Mathlib.Omega.{arith}
use Rattle.judging.proofs.Judging.{order_start, order_step, order_end}
use Rattle.judging.proofs.judge_order.Goals as goal

pub loop-p-init : goal.loop-p-init
loop-p-init c = order_start _ _ _ _ _

pub judge-said-requires : goal.judge-said-requires
judge-said-requires c = c.requires.spoken

pub loop-p-preserved : goal.loop-p-preserved
loop-p-preserved c =
    let said = c.judge-said.ensures in
    order_step c.loop-p.invariant (omega arith) (omega arith) (omega arith) _ _ _
    c.get_row-x.ensures said.0 said.1

pub returns : goal.returns
returns c = order_end c.loop-p.invariant (omega arith)
