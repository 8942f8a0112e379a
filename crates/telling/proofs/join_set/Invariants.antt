-- What the loop of `join_set` keeps. See Answers.antt.
use lib.ListN.{get_or}
use Rattle.settle.specs.Copies.{party_row}
use Rattle.settle.proofs.Copying.{RowsDone}
use Rattle.telling.proofs.join_set.Given as goal

abbrev pub invariant-loop-k : goal.invariant-loop-k
invariant-loop-k l = RowsDone (λ j. party_row l.accounts l.others (get_or l.joined j 0)) 0 l.n l.at l.initial.set l.set l.k
