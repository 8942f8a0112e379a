-- `display::lay` meets its contract: the bytes are copied over a part of the column (proofs/Pieces.antt). Assumes nothing.
use native.Mathlib.Omega.{arith}
use Rattle.display.proofs.Pieces.{laid_mid}
use Rattle.display.proofs.lay.Goals as goal

pub returns : goal.returns
returns c =
    laid_mid c.args.at c.args.n _ c.args.col.now c.args.piece.now (omega arith) c.requires.1 c.copy_from_slice.ensures.after
