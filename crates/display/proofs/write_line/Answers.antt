-- `display::write_line` meets its contract: what was built is the line, and it is laid over what is lent or not, by its length
-- (proofs/Pieces.antt). Assumes nothing.
use mathlib.Core.Path.{◌∙◌}
use native.Mathlib.Omega.{arith}
use Rattle.display.proofs.Pieces.{counted, shown, left}
use Rattle.display.proofs.write_line.Goals as goal

pub returns-then-size-out : goal.returns-then-size-out
returns-then-size-out c =
    let built = c.build-size.ensures in
    (counted built, c.lay.ensures ∙ shown built c.args.out.now (omega (arith, c.if-size-out.true)))

pub returns-else-size-out : goal.returns-else-size-out
returns-else-size-out c =
    let built = c.build-size.ensures in
    (counted built, left built c.args.out.now (omega (arith, c.if-size-out.false)))
