-- `buckets::put_last` meets its contract: the cell behind the entries is written, and no other bucket is touched (proofs/Single.antt).
-- Assumes nothing.
use native.Mathlib.Omega.{arith}
use Rattle.buckets.proofs.Single.{put_leaves}
use Rattle.buckets.proofs.put_last.Goals as goal

pub returns : goal.returns
returns c = rw c.from.ensures (put_leaves c.requires (omega (arith, c.from.ensures)) c.listed-k.ensures)
