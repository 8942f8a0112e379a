-- What the loop of `skips::put_names` keeps. See Answers.antt.
use Rattle.sheet_fills.specs.Steps.{NamesLaid}
use Rattle.sheet_fills.proofs.skips.put_names.Given as goal

abbrev pub invariant-loop-i : goal.invariant-loop-i
invariant-loop-i l = NamesLaid l.cells l.i l.names
