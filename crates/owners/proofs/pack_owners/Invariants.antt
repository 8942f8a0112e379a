-- What the loop of `pack_owners` keeps. See Answers.antt.
use Rattle.columns.specs.Laid.{held}
use Rattle.columns.proofs.Packed.{Packing}
use Rattle.owners.proofs.pack_owners.Given as goal

abbrev pub invariant-loop-i : goal.invariant-loop-i
invariant-loop-i l = Packing 0 (held l.initial.owner) l.n l.initial.owner l.owner l.i l.w
