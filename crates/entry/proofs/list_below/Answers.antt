-- `entry::list_below` meets its contract: the entries among the cells looked at stand at the front of the column (proofs/Listing.antt).
-- Assumes nothing.
use mathlib.Core.Path.{refl}
use Prim.Native.Nat.{◌<◌, ◌*◌}
use native.Mathlib.Omega.{arith}
use lib.Seq.{get_or-take}
use Rattle.entry.proofs.Listing.{list_start, list_end, list_pass, list_keep}
use Rattle.entry.proofs.list_below.Goals as goal
use Rattle.entry.proofs.list_below.Goals.{else-entry, then-entry}

pub loop-x-init : goal.loop-x-init
loop-x-init c = list_start _ _ _

pub overflow_cast-listed : goal.overflow_cast-listed
overflow_cast-listed c = omega (arith, c.if-entry.true)

pub loop-x-preserved : goal.loop-x-preserved
loop-x-preserved c =
    let h = c.args.height in
    let now = c.args.buckets.now in
    let k = c.loop-x.x-index in
    let l : k < 64 * h = omega arith in
    let e = get_or-take (64 * h) now k 0 l in
    elim c.if-entry.branch [
      | then-entry w ↦ rw (w.listed-is, w.count-is, e) (list_keep c.loop-x.invariant l (omega arith) (omega arith) (rw e at w.if-entry.true) _ refl)
      | else-entry w ↦ rw (w.listed-is, w.count-is) (list_pass c.loop-x.invariant l (omega arith) (omega arith) (rw e at w.if-entry.false))
    ]

pub returns : goal.returns
returns c = list_end c.loop-x.invariant c.requires.0 _ c.requires.1 refl (omega arith)
