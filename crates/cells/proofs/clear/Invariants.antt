-- What the loop of `clear` keeps. See Answers.antt.
use lib.ListN.{replicate}
use Rattle.columns.proofs.Lays.{Laying}
use Rattle.cells.proofs.clear.Given as goal

abbrev pub invariant-loop-cell : goal.invariant-loop-cell
invariant-loop-cell g l = Laying (replicate l.n l.blank) 0 l.n l.initial.cell-items l.cell-items l.cell-index
