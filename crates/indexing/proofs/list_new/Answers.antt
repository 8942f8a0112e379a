-- `indexing::list_new` meets its contract: each new slot is put last in the bucket of its count (crates/buckets/proofs/Listing.antt). Assumes nothing.
use native.Mathlib.Omega.{arith}
use Prim.Native.Nat.{◌<◌}
use Rattle.buckets.proofs.Listing.{list_start, list_put, list_step}
use Rattle.buckets.proofs.Worlds.{list_end}
use Rattle.indexing.proofs.list_new.Goals as goal

pub loop-i-init : goal.loop-i-init
loop-i-init c = list_start c.requires

pub put_last-requires : goal.put_last-requires
put_last-requires c =
    let l : c.loop-i.i < c.args.n = omega arith in
    rw c.from.ensures (list_put c.requires c.loop-i.invariant l)

pub loop-i-preserved : goal.loop-i-preserved
loop-i-preserved c =
    let l : c.loop-i.i < c.args.n = omega arith in
    list_step c.requires c.loop-i.invariant l (rw c.from.ensures at c.put_last.ensures)

pub returns : goal.returns
returns c = list_end _ _ _ c.loop-i.invariant (omega arith)
