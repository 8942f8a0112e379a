-- `packing::pack_rows` meets its contract: the loop packs the rows in place, and the call behind it frees the rest
-- (proofs/PackedRows.antt). Assumes nothing.
use mathlib.Core.Path.{◌∙◌, sym}
use Prim.Native.Nat.{◌<◌, ◌≤◌}
use native.Mathlib.Omega.{arith}
use Rattle.columns.specs.Laid.{held}
use Rattle.columns.proofs.Packed.{pack_count}
use Rattle.columns.proofs.PackedRows.{rows_start, rows_end, rows_skip, rows_keep}
use Rattle.packing.proofs.pack_rows.Goals as goal
use Rattle.packing.proofs.pack_rows.Goals.{else-is_place, then-is_place}

pub loop-i-init : goal.loop-i-init
loop-i-init c = rows_start _ _ _

pub loop-i-preserved : goal.loop-i-preserved
unfolding held
loop-i-preserved c =
    let l : c.loop-i.i < c.args.n = omega arith in
    let e = sym c.is_place.ensures in
    elim c.if-is_place.branch [
      | then-is_place w ↦ rw (w.col-is, w.copy_row.ensures, w.w-is) (rows_keep c.loop-i.invariant (omega arith) l (e ∙ w.if-is_place.true))
      | else-is_place w ↦ rw (w.col-is, w.w-is) (rows_skip c.loop-i.invariant (omega arith) l (e ∙ w.if-is_place.false))
    ]

pub returns : goal.returns
returns c =
    let v = c.loop-i.invariant in
    let h : c.args.n ≤ c.loop-i.i = omega arith in
    record { count = pack_count v.rows h; cells = c.clear.ensures ∙ rows_end v (omega arith) h }
