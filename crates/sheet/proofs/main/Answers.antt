-- `sheet::main` is safe and ends: the answer lies in its room. Assumes nothing.
use mathlib.Core.Path.{sym}
use native.Mathlib.Omega.{arith}
use lib.Seq.{length-take-le}
use Rattle.sheet.proofs.main.Goals as goal

pub slice_bounds-write_all-end : goal.slice_bounds-write_all-end
slice_bounds-write_all-end c =
    let a = c.answer-size.ensures in
    sym (length-take-le _ _ (omega (arith, a.near, a.long)))
