-- `lines::read_lines` meets its contract: the loop reads a line a turn (proofs/Loops.antt). Assumes nothing.
use Rattle.lines.proofs.Loops.{lines_start, lines_step, lines_broken, lines_end}
use Rattle.lines.proofs.read_lines.Goals as goal

pub loop-i-init : goal.loop-i-init
loop-i-init c = lines_start _ _ _ _ _ c.requires.0

pub returns-in_default : goal.returns-in_default
returns-in_default c = lines_broken _ _ _ _ _ c.loop-i.invariant c.loop-i-test.true c.in_default.ensures

pub loop-i-preserved : goal.loop-i-preserved
loop-i-preserved c = lines_step _ _ _ _ _ c.loop-i.invariant c.loop-i-test.true c.requires.1 _ c.in-Some.ensures

pub returns : goal.returns
returns c = lines_end _ _ _ _ _ c.loop-i.invariant c.loop-i-test.false
