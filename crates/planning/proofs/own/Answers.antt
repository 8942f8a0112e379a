-- `planning::own` meets its contract: the front of the column is written over with the owners. Assumes nothing.
use mathlib.Core.Path.{◌≡◌}
use Prim.Native.Nat.{◌+◌}
use native.Mathlib.Omega.{arith}
use lib.ListN.{length, take}
use lib.Seq.{length-take-le}
use Rattle.columns.specs.Laid.{laid_at}
use Rattle.entry.specs.Entry.{owners_c}
use Rattle.planning.proofs.own.Goals as goal

pub returns : goal.returns
unfolding owners_c laid_at
returns c =
    let e : 0 + length (take c.args.n c.args.owner.now) ≡ c.args.n = omega (arith, length-take-le c.args.n c.args.owner.now c.requires.0) in
    rw (c.copy_from_slice.ensures.after, e)
