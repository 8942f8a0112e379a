-- What the loop of `all` keeps. See Answers.antt.
use Prim.Native.Nat.{◌*◌}
use Rattle.sheet_rows.specs.Answer.{adds}
use Rattle.sheet_adds.specs.Steps.{meant_by, Tells}
use Rattle.sheet_adds.proofs.all.Given as goal

abbrev pub invariant-loop-i : goal.invariant-loop-i
invariant-loop-i l = Tells (adds l.cells l.i (meant_by l.initial.done.state)) (51 * l.i) l.at l.initial.out l.out l.done
