-- `telling::keys` meets its contract: the keys of the internals passed lie at the front of the key list (proofs/KeyRows.antt, `Keying`).
-- Assumes nothing.
use mathlib.Core.Path.{ap, ◌∙◌}
use Prim.Native.Nat.{ℕ}
use native.Mathlib.Omega.{arith}
use lib.ListN.{length, get_or}
use Rattle.columns.specs.Rows.{row_at}
use Rattle.columns.proofs.Rows.{length_row}
use Rattle.telling.proofs.KeyRows.{key_start, key_step, key_skip, key_end, key_room, key_true, key_false}
use Rattle.telling.proofs.keys.Goals as goal
use Rattle.telling.proofs.keys.Goals.{then-internal, else-internal}

pub loop-k-init : goal.loop-k-init
loop-k-init c = key_start _ _ _ _ _ _ _

pub bounds-kind-row : goal.bounds-kind-row
bounds-kind-row c =
    omega (arith, c.from-row.ensures, c.requires.there c.loop-k.k c.loop-k-test.true, c.requires.kinds_long)

pub bounds-time-row : goal.bounds-time-row
bounds-time-row c =
    omega (arith, c.from-row.ensures, c.requires.there c.loop-k.k c.loop-k-test.true, c.requires.kinds_long)

pub offset_bounds-lts-w : goal.offset_bounds-lts-w
offset_bounds-lts-w c =
    let e = key_true c.args.rows.now c.args.kind.now c.loop-k.k _ c.from-row.ensures c.if-internal.true in
    let r = key_room c.loop-k.invariant c.loop-k-test.true e in
    omega (arith, r, c.loop-k.invariant.low)

pub bounds-lts-w : goal.bounds-lts-w
bounds-lts-w c =
    let e = key_true c.args.rows.now c.args.kind.now c.loop-k.k _ c.from-row.ensures c.if-internal.true in
    let r = key_room c.loop-k.invariant c.loop-k-test.true e in
    omega (arith, r, c.requires.fits, c.loop-k.invariant.lts_done.long)

pub get_row-h-requires : goal.get_row-h-requires
get_row-h-requires c =
    omega (arith, c.from-row.ensures, c.requires.there c.loop-k.k c.loop-k-test.true, c.requires.hash_long)

pub put_row-requires : goal.put_row-requires
put_row-requires c =
    let e = key_true c.args.rows.now c.args.kind.now c.loop-k.k _ c.from-row.ensures c.if-internal.true in
    let r = key_room c.loop-k.invariant c.loop-k-test.true e in
    omega (arith, r, c.requires.hashes_fit, c.loop-k.invariant.hashes_done.long)

pub loop-k-preserved : goal.loop-k-preserved
loop-k-preserved c =
    let v = c.loop-k.invariant in
    let l = c.loop-k-test.true in
    let is = c.from-row.ensures in
    let a = c.args in
    let p = c.requires in
    elim c.if-internal.branch [
      | then-internal w ↦
          let x = w.get_row-h.ensures ∙ ap (row_at a.hash.now) is in
          let wide = ap length x ∙ length_row a.hash.now _ (omega (arith, p.there c.loop-k.k l, p.hash_long)) in
          rw (w.lts-is, w.hashes-is, w.w-is, w.put_row.ensures)
          (key_step v l (key_true a.rows.now a.kind.now c.loop-k.k _ is w.if-internal.true) p.fits p.hashes_fit _
          (ap (λ (i : ℕ). get_or a.time.now i 0) is) _ x wide)
      | else-internal w ↦
          rw (w.lts-is, w.hashes-is, w.w-is) (key_skip v l (key_false a.rows.now a.kind.now c.loop-k.k _ is w.if-internal.false))
    ]

pub returns : goal.returns
returns c = key_end c.loop-k.invariant c.loop-k-test.false
