-- `owners::pack_owners` meets its contract: the owners are packed in place; the owner read has not been written over, so it tells whether the
-- message was held at the start (proofs/Packed.antt of columns). Assumes nothing.
use native.Mathlib.Omega.{arith}
use mathlib.Core.Path.{◌∙◌, ap, sym}
use Prim.Native.Nat.{◌<◌, ◌≤◌}
use Rattle.columns.specs.Laid.{held, is_place}
use Rattle.columns.proofs.Packed.{pack_start, pack_count, pack_end, unwritten, pack_skip, pack_keep}
use Rattle.owners.proofs.pack_owners.Goals as goal
use Rattle.owners.proofs.pack_owners.Goals.{else-is_place, then-is_place}

pub loop-i-init : goal.loop-i-init
loop-i-init c = pack_start _ _ _ _

pub loop-i-preserved : goal.loop-i-preserved
unfolding held
loop-i-preserved c =
    let l : c.loop-i.i < c.args.n = omega arith in
    let v = c.loop-i.invariant in
    let e = ap is_place (sym (unwritten v)) ∙ sym c.is_place.ensures in
    elim c.if-is_place.branch [
      | then-is_place w ↦ rw (w.owner-is, w.w-is) (pack_keep v l (omega arith) (e ∙ w.if-is_place.true))
      | else-is_place w ↦ rw (w.owner-is, w.w-is) (pack_skip v l (e ∙ w.if-is_place.false))
    ]

pub returns : goal.returns
returns c =
    let v = c.loop-i.invariant in
    let h : c.args.n ≤ c.loop-i.i = omega arith in
    record { count = pack_count v h; cells = c.clear.ensures ∙ pack_end v h }
