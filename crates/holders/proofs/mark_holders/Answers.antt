-- `holders::mark_holders` meets its contract: the owners passed have marked their places (proofs/Seats.antt, `Marking`). Assumes nothing.
use mathlib.Core.Path.{sym, ◌∙◌}
use Prim.Native.Nat.{◌<◌}
use native.Mathlib.Omega.{arith}
use lib.ListN.{get_or}
use borrow.Author.Tests.{ltb-true}
use Rattle.holders.proofs.Seats.{mark_start, mark_end, mark_step, mark_skip}
use Rattle.holders.proofs.mark_holders.Goals as goal
use Rattle.holders.proofs.mark_holders.Goals.{else-is_place, then-is_place}

pub loop-i-init : goal.loop-i-init
loop-i-init c = mark_start _ _ _

pub bounds-held-from : goal.bounds-held-from
bounds-held-from c =
    let h : get_or c.args.owner.now c.loop-i.i 0 < 256 = ltb-true _ _ (sym c.is_place.ensures ∙ c.if-is_place.true) in
    omega (arith, h, c.from.ensures)

pub loop-i-preserved : goal.loop-i-preserved
loop-i-preserved c =
    let l = c.loop-i-test.true in
    let e = sym c.is_place.ensures in
    elim c.if-is_place.branch [
      | then-is_place w ↦ rw w.held-is (mark_step c.loop-i.invariant l (e ∙ w.if-is_place.true) _ w.from.ensures)
      | else-is_place w ↦ rw w.held-is (mark_skip c.loop-i.invariant l (e ∙ w.if-is_place.false))
    ]

pub returns : goal.returns
returns c = mark_end c.loop-i.invariant c.loop-i-test.false
