-- `laying::lay` meets its contract: the loop lays the source over the cells from `to` on (columns' proofs/Lays.antt). Assumes nothing.
use native.Mathlib.Omega.{arith}
use lib.ListN.{take}
use lib.Seq.{length-take-le, take_all}
use Rattle.columns.proofs.Lays.{lay_start, lay_step, lay_end}
use Rattle.laying.proofs.lay.Goals as goal

pub loop-i-init : goal.loop-i-init
loop-i-init g c = lay_start _ _ _ _

pub loop-i-preserved : goal.loop-i-preserved
loop-i-preserved g c =
    let a = c.args in
    let front = length-take-le a.n a.from.now c.requires.source in
    let x = c.x-item.result in
    lay_step c.loop-i.invariant (omega arith) x c.requires.target (omega arith) x c.x-item.is

pub returns : goal.returns
returns g c =
    let a = c.args in
    let front = length-take-le a.n a.from.now c.requires.source in
    rw (take_all a.n (take a.n a.from.now) (omega arith)) at (lay_end c.loop-i.invariant (omega arith) (omega arith))
