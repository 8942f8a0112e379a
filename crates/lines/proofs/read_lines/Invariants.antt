-- What the loop of `read_lines` keeps. See Answers.antt.
use Rattle.lines.proofs.Loops.{InLines}
use Rattle.lines.proofs.read_lines.Given as goal

abbrev pub invariant-loop-i : goal.invariant-loop-i
invariant-loop-i l = InLines l.text l.from l.limits l.n l.initial.table l.table l.next l.i
