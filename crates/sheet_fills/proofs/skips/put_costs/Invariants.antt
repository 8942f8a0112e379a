-- What the loop of `skips::put_costs` keeps. See Answers.antt.
use Rattle.sheet_fills.specs.Steps.{CostsLaid}
use Rattle.sheet_fills.proofs.skips.put_costs.Given as goal

abbrev pub invariant-loop-i : goal.invariant-loop-i
invariant-loop-i l = CostsLaid l.cells l.i l.costs
