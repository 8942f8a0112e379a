-- What the loop of `load::full` keeps. See Answers.antt.
use Rattle.lintelsong.specs.Closed.{GoodBuffer}
use Rattle.timing.proofs.load.full.Given as goal

abbrev pub invariant-loop-i : goal.invariant-loop-i
invariant-loop-i l = GoodBuffer l.buffer
