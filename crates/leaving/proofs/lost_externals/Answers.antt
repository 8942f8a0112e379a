-- `leaving::lost_externals` meets its contract: the count so far and what the rest counts are the whole count (proofs/Seating.antt, `Losing`).
-- Assumes nothing.
use lib.ListN.{length}
use mathlib.Core.Path.{sym, ◌∙◌}
use Prim.Native.Nat.{◌≤◌}
use native.Mathlib.Omega.{arith}
use Rattle.leaving.proofs.Seating.{lose_start, lose_end, lose_one, lose_seated, lose_other}
use Rattle.leaving.proofs.lost_externals.Goals as goal
use Rattle.leaving.proofs.lost_externals.Goals.{else-external, then-external+else-not-is_place, then-external+then-not-is_place}

pub loop-i-init : goal.loop-i-init
loop-i-init c = lose_start _ _ _ _

pub bounds-seats-from : goal.bounds-seats-from
bounds-seats-from c =
    omega (arith, c.requires.owners c.loop-i.i c.loop-i-test.true, c.from.ensures)

pub loop-i-preserved : goal.loop-i-preserved
loop-i-preserved c =
    let v = c.loop-i.invariant in
    let l = c.loop-i-test.true in
    let h : c.args.n ≤ length c.args.owner.now = omega arith in
    elim c.if-external.branch [
      | then-external+then-not-is_place w ↦ rw w.count-is (lose_one v l h w.if-external.true (rw w.from.ensures at (sym w.is_place.ensures) ∙ w.if-not-is_place.true))
      | then-external+else-not-is_place w ↦ rw w.count-is (lose_seated v l h w.if-external.true (rw w.from.ensures at (sym w.is_place.ensures) ∙ w.if-not-is_place.false))
      | else-external w ↦ rw w.count-is (lose_other v l h w.if-external.false)
    ]

pub returns : goal.returns
returns c = lose_end c.loop-i.invariant c.loop-i-test.false
