-- `buckets::take_out` meets its contract: the loop closes the gap, and the cells that came free are marked
-- (proofs/Single.antt). Assumes nothing.
use native.Mathlib.Omega.{arith}
use Prim.Native.Nat.{◌<◌}
use mathlib.Core.Path.{◌≡◌, subst}
use borrow.Author.Rules.{rules}
use Prim.Native.Nat.{ℕ, ◌-◌}
use Rattle.buckets.specs.Cells.{index}
use Rattle.buckets.specs.Moves.{Leaves, taken_out}
use Rattle.buckets.proofs.Entries.{marks}
use Rattle.buckets.proofs.Single.{freed, take_start, take_skip, take_keep, take_leaves}
use Rattle.buckets.proofs.take_out.Goals as goal
use Rattle.buckets.proofs.take_out.Goals.{else-x-gone, then-x-gone}

pub loop-i-init : goal.loop-i-init
loop-i-init c = take_start _ _ _ c.requires.0.size c.requires.1

pub loop-i-preserved : goal.loop-i-preserved
loop-i-preserved c =
    let l : c.loop-i.i < 64 = omega arith in
    elim c.if-x-gone.branch [
      | then-x-gone w ↦ rw (w.buckets-is, w.w-is) (take_keep c.loop-i.invariant c.requires.0.size c.requires.1 l w.if-x-gone.true)
      | else-x-gone w ↦ rw (w.buckets-is, w.w-is) (take_skip c.loop-i.invariant c.requires.0.size c.requires.1 l w.if-x-gone.false)
    ]

pub returns : goal.returns
returns c =
    let gone = c.from-gone.ensures in
    let e : c.fill.new.self ≡ marks (64 - c.loop-i.w) = search rules in
    subst (λ (g : ℕ). Leaves (taken_out c.args.c g (index c.args.buckets.now)) (freed c.args.c c.loop-i.w c.loop-i.buckets c.fill.new.self)) gone
    (take_leaves c.loop-i.invariant c.requires.0.size c.requires.1 c.loop-i-test.false (omega (arith, gone)) c.requires.0 c.fill.new.self e)
