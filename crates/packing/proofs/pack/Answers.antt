-- `packing::pack` meets its contract: the loop packs the cells in place, and the call behind it frees the rest (columns' proofs/Packed.antt).
-- Assumes nothing.
use native.Mathlib.Omega.{arith}
use mathlib.Core.Path.{◌∙◌, sym}
use Prim.Native.Nat.{◌<◌, ◌≤◌}
use lib.ListN.{length}
use Rattle.std.proofs.lemmas.List.{get_or_default}
use Rattle.columns.specs.Laid.{held}
use Rattle.columns.proofs.Packed.{pack_start, pack_count, pack_end, pack_skip, pack_keep}
use Rattle.packing.proofs.pack.Goals as goal
use Rattle.packing.proofs.pack.Goals.{else-is_place, then-is_place}

pub loop-i-init : goal.loop-i-init
loop-i-init g c = pack_start _ _ _ _

pub loop-i-preserved : goal.loop-i-preserved
unfolding held
loop-i-preserved g c =
    let l : c.loop-i.i < c.args.n = omega arith in
    let e = sym c.is_place.ensures in
    elim c.if-is_place.branch [
      | then-is_place w ↦
          let long : c.loop-i.i < length c.loop-i.col = omega arith in
          let cell = w.index-col-i.is ∙ get_or_default _ _ _ c.args.blank long in
          rw (w.col-is, w.w-is, cell) (pack_keep c.loop-i.invariant l (omega arith) (e ∙ w.if-is_place.true))
      | else-is_place w ↦ rw (w.col-is, w.w-is) (pack_skip c.loop-i.invariant l (e ∙ w.if-is_place.false))
    ]

pub returns : goal.returns
returns g c =
    let v = c.loop-i.invariant in
    let h : c.args.n ≤ c.loop-i.i = omega arith in
    record { count = pack_count v h; cells = c.clear.ensures ∙ pack_end v h }
