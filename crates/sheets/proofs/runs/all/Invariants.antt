-- What the loop of `runs::all` keeps. See Answers.antt.
use Prim.Native.Nat.{◌*◌}
use Rattle.sheet_rows.specs.Answer.{fills}
use Rattle.sheet_adds.specs.Steps.{meant_by, Tells}
use Rattle.sheet_fills.specs.Steps.{skips_in}
use Rattle.sheets.proofs.runs.all.Given as goal

abbrev pub invariant-loop-i : goal.invariant-loop-i
invariant-loop-i l = Tells (fills (skips_in l.rows) l.cells l.i (meant_by l.initial.done.state)) (247 * l.i) l.at l.initial.out l.out l.done
