-- What the loop of `collect_rows` keeps. See Answers.antt.
use lib.ListN.{get_or}
use Rattle.columns.specs.Rows.{row_at}
use Rattle.settle.proofs.Copying.{RowsDone}
use Rattle.collecting.proofs.collect_rows.Given as goal

abbrev pub invariant-loop-k : goal.invariant-loop-k
invariant-loop-k l = RowsDone (λ j. row_at l.from (get_or l.rows j 0)) l.first l.n l.at l.initial.to l.to l.k
