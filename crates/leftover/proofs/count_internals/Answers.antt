-- `leftover::count_internals` meets its contract: the count so far and what the rest counts are the whole (proofs/Internals.antt, `Counting`).
-- Assumes nothing.
use native.Mathlib.Omega.{arith}
use Prim.Native.Nat.{◌≤◌, ◌<◌}
use Rattle.leftover.proofs.Internals.{count_start, count_end, count_one, count_other}
use Rattle.leftover.proofs.count_internals.Goals as goal
use Rattle.leftover.proofs.count_internals.Goals.{else-kind-i-ne1, then-kind-i-ne1}

pub loop-i-init : goal.loop-i-init
loop-i-init c = count_start _ _

pub loop-i-preserved : goal.loop-i-preserved
loop-i-preserved c =
    let l : c.loop-i.i < c.args.n = omega arith in
    elim c.if-kind-i-ne1.branch [
      | then-kind-i-ne1 w ↦ rw w.count-is (count_one c.loop-i.invariant l (omega arith) w.if-kind-i-ne1.true)
      | else-kind-i-ne1 w ↦ rw w.count-is (count_other c.loop-i.invariant l (omega arith) w.if-kind-i-ne1.false)
    ]

pub returns : goal.returns
returns c =
    let e : c.args.n ≤ c.loop-i.i = omega arith in
    count_end c.loop-i.invariant e
