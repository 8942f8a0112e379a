-- `examples::one` is safe and ends: the answer lies in its room. Assumes nothing.
use mathlib.Core.Path.{sym}
use native.Mathlib.Omega.{arith}
use lib.Seq.{length-take-le}
use Rattle.examples.proofs.one.Goals as goal

pub slice_bounds-write_all-end-2 : goal.slice_bounds-write_all-end-2
slice_bounds-write_all-end-2 c =
    let a = c.answer-size.ensures in
    sym (length-take-le _ _ (omega (arith, a.near, a.long, c.requires)))
