-- What the loop of `same_row` keeps. See Answers.antt.
use Rattle.columns.proofs.Index.{Comparing}
use Rattle.rows.proofs.same_row.Given as goal

abbrev pub invariant-loop-j : goal.invariant-loop-j
invariant-loop-j l = Comparing l.col l.x l.i l.j
