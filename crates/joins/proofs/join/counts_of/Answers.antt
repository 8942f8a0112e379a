-- `joins::join::counts_of` meets its contract: the loop lays the sums over an array of zeros (proofs/Sums.antt). Assumes nothing.
use mathlib.Core.Path.{refl}
use native.Mathlib.Omega.{arith}
use Rattle.columns.proofs.Lays.{lay_start}
use Rattle.joins.proofs.Sums.{sum_step, sum_end}
use Rattle.joins.proofs.join.counts_of.Goals as goal

pub loop-i-init : goal.loop-i-init
loop-i-init c = lay_start _ _ _ _

pub overflow_add-counts : goal.overflow_add-counts
overflow_add-counts c = omega (arith, c.requires.low c.loop-i.i c.loop-i-test.true)

pub loop-i-preserved : goal.loop-i-preserved
loop-i-preserved c = sum_step c.requires refl c.loop-i.invariant c.loop-i-test.true

pub returns : goal.returns
returns c = sum_end c.requires refl c.loop-i.invariant c.loop-i-test.false
