-- `answers::end_line` meets its contract: one byte is laid behind the line. Assumes nothing.
use mathlib.Core.List.{[], ◌∷◌}
use native.Mathlib.Omega.{arith}
use Rattle.display.proofs.Pieces.{puts_laid}
use Rattle.answers.proofs.end_line.Goals as goal

pub returns : goal.returns
returns c =
    rw c.lay.ensures (puts_laid (10 ∷ []) 1 c.args.at c.args.out.now c.requires (omega arith))
