-- `lines::read_line` meets its contract: the loop reads a number a turn (proofs/Loops.antt). Assumes nothing.
use Rattle.lines.proofs.Loops.{line_start, line_step, line_broken, line_end}
use Rattle.lines.proofs.read_line.Goals as goal

pub loop-j-init : goal.loop-j-init
loop-j-init c = line_start _ _ _ _ _ c.requires.0

pub returns-in_err-n : goal.returns-in_err-n
returns-in_err-n c =
    rw c.from_residual.ensures (line_broken _ _ _ _ _ c.loop-j.invariant c.loop-j-test.true _ c.stop_of.ensures c.in_err-n.ensures)

pub loop-j-preserved : goal.loop-j-preserved
loop-j-preserved c =
    line_step _ _ _ _ _ c.loop-j.invariant c.loop-j-test.true _ c.stop_of.ensures c.requires.1 _ c.in_ok-n.ensures

pub returns : goal.returns
returns c = line_end _ _ _ _ _ c.loop-j.invariant c.loop-j-test.false
