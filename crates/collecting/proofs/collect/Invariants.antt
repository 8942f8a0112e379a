-- What the loop of `collect` keeps, whatever stands for a cell that is not there. See Answers.antt.
use lib.ListN.{get_or}
use Rattle.columns.specs.Lists.{tab_i}
use Rattle.columns.proofs.Lays.{Laying}
use Rattle.collecting.proofs.collect.Given as goal

abbrev pub invariant-loop-k : goal.invariant-loop-k
invariant-loop-k g l =
    let T : Type 0 = g.row.T.Denot in
    (none : T) → Laying (tab_i l.n l.first (λ j. get_or l.from (get_or l.rows j 0) none)) l.at l.n l.initial.to l.to l.k
