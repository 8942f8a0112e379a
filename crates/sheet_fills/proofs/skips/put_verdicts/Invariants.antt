-- What the loop of `skips::put_verdicts` keeps. See Answers.antt.
use Rattle.sheet_fills.specs.Steps.{VerdictsLaid}
use Rattle.sheet_fills.proofs.skips.put_verdicts.Given as goal

abbrev pub invariant-loop-i : goal.invariant-loop-i
invariant-loop-i l = VerdictsLaid l.cells l.i l.verdicts
