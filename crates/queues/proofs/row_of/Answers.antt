-- `queues::row_of` meets its contract: the search passes the owners from the front (proofs/Seeking.antt). Assumes nothing.
use mathlib.Core.Path.{◌≡◌}
use lib.ListN.{length}
use Prim.Native.Nat.{◌<◌}
use native.Mathlib.Omega.{arith}
use Rattle.queues.proofs.Seeking.{seek_start, seek_found, seek_end, seek_passed, seek_other}
use Rattle.queues.proofs.row_of.Goals as goal
use Rattle.queues.proofs.row_of.Goals.{else-owner-i, then-owner-i+else-behind-eq0}

pub loop-i-init : goal.loop-i-init
loop-i-init c = seek_start _ _ _ _

pub returns-then-behind-eq0 : goal.returns-then-behind-eq0
returns-then-behind-eq0 c = seek_found c.loop-i.invariant (omega arith) (omega arith) c.if-owner-i.true c.if-behind-eq0.true

pub loop-i-preserved : goal.loop-i-preserved
loop-i-preserved c =
    let l : c.loop-i.i < c.args.n = omega arith in
    let h : c.loop-i.i < length c.args.owner.now = omega arith in
    elim c.if-owner-i.branch [
      | then-owner-i+else-behind-eq0 w ↦ rw w.behind-is (seek_passed c.loop-i.invariant l h w.if-owner-i.true w.if-behind-eq0.false)
      | else-owner-i w ↦ rw w.behind-is (seek_other c.loop-i.invariant l h w.if-owner-i.false)
    ]

pub returns : goal.returns
returns c =
    let last : c.loop-i.i ≡ c.args.n = omega arith in
    rw last at (seek_end c.loop-i.invariant (omega arith))
