-- What the loop of `read_line` keeps. See Answers.antt.
use Rattle.lines.proofs.Loops.{InLine}
use Rattle.lines.proofs.read_line.Given as goal

abbrev pub invariant-loop-j : goal.invariant-loop-j
invariant-loop-j l = InLine l.text l.from l.limits l.cell l.initial.table l.table l.next l.j
