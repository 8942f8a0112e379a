-- `slots::home_of` meets its contract: the search passes the homes from the front, as one of owners does (crate queues, Seeking). Assumes
-- nothing.
use lib.ListN.{length}
use mathlib.Core.Path.{◌≡◌, sym, ◌∙◌}
use Prim.Native.Nat.{◌<◌}
use native.Mathlib.Omega.{arith}
use Rattle.queues.proofs.Seeking.{seek_start, seek_found, seek_end, Seeking, seek_passed, seek_other}
use Rattle.slots.proofs.home_of.Goals as goal
use Rattle.slots.proofs.home_of.Goals.{else-from-position, then-from-position+else-behind-eq0}

pub loop-i-init : goal.loop-i-init
loop-i-init c = seek_start _ _ _ _

pub returns-then-behind-eq0 : goal.returns-then-behind-eq0
returns-then-behind-eq0 c =
    seek_found c.loop-i.invariant (omega arith) (omega arith) (sym c.from.ensures ∙ c.if-from-position.true) c.if-behind-eq0.true

pub loop-i-preserved : goal.loop-i-preserved
loop-i-preserved c =
    let l : c.loop-i.i < c.args.n = omega arith in
    let h : c.loop-i.i < length c.args.home.now = omega arith in
    elim c.if-from-position.branch [
      | then-from-position+else-behind-eq0 w ↦ rw w.behind-is (seek_passed c.loop-i.invariant l h (sym c.from.ensures ∙ w.if-from-position.true) w.if-behind-eq0.false)
      | else-from-position w ↦ rw w.behind-is (seek_other c.loop-i.invariant l h (λ e. w.if-from-position.false (c.from.ensures ∙ e)))
    ]

pub returns : goal.returns
returns c =
    let last : c.loop-i.i ≡ c.args.n = omega arith in
    rw last at (seek_end c.loop-i.invariant (omega arith))
