-- What the loop of `pack_rows` keeps. See Answers.antt.
use Rattle.columns.specs.Laid.{held}
use Rattle.columns.proofs.PackedRows.{PackingRows}
use Rattle.packing.proofs.pack_rows.Given as goal

abbrev pub invariant-loop-i : goal.invariant-loop-i
invariant-loop-i l = PackingRows (held l.owner) l.n l.initial.col l.col l.i l.w
