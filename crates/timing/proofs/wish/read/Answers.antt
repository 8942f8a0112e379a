-- `timing::wish::read` is safe and ends: the line lies in the text. Assumes nothing.
use mathlib.Core.Path.{sym}
use lib.Seq.{length-take-le}
use Rattle.timing.proofs.wish.read.Goals as goal

pub slice_bounds-said-end : goal.slice_bounds-said-end
slice_bounds-said-end c = sym (length-take-le _ _ c.until-end.ensures.within)
