-- What the loop of `run` keeps. See Answers.antt.
use Rattle.timing.specs.Fills.{GoodAnswer}
use Rattle.timing.proofs.run.Given as goal

abbrev pub invariant-loop : goal.invariant-loop
invariant-loop l = GoodAnswer l.last
