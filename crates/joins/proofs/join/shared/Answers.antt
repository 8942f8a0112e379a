-- `joins::join::shared` meets its contract: the accounts passed are not the left's, so those that are left decide (proofs/Shared.antt).
-- Assumes nothing.
use native.Mathlib.Omega.{arith}
use Rattle.joins.proofs.Shared.{seek_start, seek_found, seek_step, seek_end}
use Rattle.joins.proofs.join.shared.Goals as goal

pub loop-k-init : goal.loop-k-init
loop-k-init c = seek_start _ _ _ _

pub returns-then-find_row-m : goal.returns-then-find_row-m
returns-then-find_row-m c =
    seek_found c.loop-k.invariant (omega arith) c.get_row-x.ensures c.find_row.ensures c.if-find_row-m.true

pub loop-k-preserved : goal.loop-k-preserved
loop-k-preserved c =
    seek_step c.loop-k.invariant (omega arith) c.get_row-x.ensures c.find_row.ensures c.if-find_row-m.false

pub returns : goal.returns
returns c = seek_end c.loop-k.invariant (omega arith)
