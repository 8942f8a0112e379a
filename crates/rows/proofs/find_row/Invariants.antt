-- What the loop of `find_row` keeps. See Answers.antt.
use Rattle.columns.proofs.Index.{Searching}
use Rattle.rows.proofs.find_row.Given as goal

abbrev pub invariant-loop-i : goal.invariant-loop-i
invariant-loop-i l = Searching l.x l.col l.n l.i
