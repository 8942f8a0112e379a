-- `indexing::reindex` meets its contract: each changed slot is moved on, and the buckets that were left are remembered (crates/buckets/proofs/Moving.antt).
-- Assumes nothing.
use Prim.Native.Nat.{◌<◌}
use native.Mathlib.Omega.{arith}
use Rattle.buckets.proofs.Moving.{move_start, may_put, move_skip, move_on}
use Rattle.buckets.proofs.Worlds.{move_end}
use Rattle.indexing.proofs.reindex.Goals as goal
use Rattle.indexing.proofs.reindex.Goals.{else-old-new, then-old-new}

pub loop-i-init : goal.loop-i-init
loop-i-init c = move_start c.requires

pub bounds-left-old : goal.bounds-left-old
bounds-left-old c =
    omega (arith, c.from-old.ensures, (c.requires.low c.loop-i.i (omega arith)).0)

pub moved-requires : goal.moved-requires
moved-requires c =
    let v = c.loop-i.invariant in
    let l : c.loop-i.i < c.args.n = omega arith in
    let p = c.requires in
    let old = c.from-old.ensures in
    let new = c.from-new.ensures in
    (rw new (may_put p v l (λ e. omega (arith, e, c.if-old-new.true, old, new))), rw old (p.low _ l).0)

pub bounds-left-old-then-old-new : goal.bounds-left-old-then-old-new
bounds-left-old-then-old-new c =
    omega (arith, c.from-old.ensures, (c.requires.low c.loop-i.i (omega arith)).0)

pub loop-i-preserved : goal.loop-i-preserved
loop-i-preserved c =
    let v = c.loop-i.invariant in
    let l : c.loop-i.i < c.args.n = omega arith in
    let p = c.requires in
    let old = c.from-old.ensures in
    let new = c.from-new.ensures in
    elim c.if-old-new.branch [
      | then-old-new w ↦ rw (w.made-is, w.left-is, old) (move_on p v l (λ e. omega (arith, e, w.if-old-new.true, old, new)) (rw (old, new) at w.moved.ensures))
      | else-old-new w ↦ rw (w.made-is, w.left-is) (move_skip p v l (omega (arith, w.if-old-new.false, old, new)))
    ]

pub returns : goal.returns
returns c =
    let p = c.requires in
    move_end _ _ _ _ p.once p.numbered c.loop-i.invariant (omega arith)
