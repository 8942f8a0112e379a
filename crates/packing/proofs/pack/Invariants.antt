-- What the loop of `pack` keeps. See Answers.antt.
use Rattle.columns.specs.Laid.{held}
use Rattle.columns.proofs.Packed.{Packing}
use Rattle.packing.proofs.pack.Given as goal

abbrev pub invariant-loop-i : goal.invariant-loop-i
invariant-loop-i g l = Packing l.blank (held l.owner) l.n l.initial.col l.col l.i l.w
