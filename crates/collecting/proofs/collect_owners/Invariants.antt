-- What the loop of `collect_owners` keeps. See Answers.antt.
use Prim.Native.Nat.{◌-◌}
use lib.ListN.{get_or}
use Rattle.settle.proofs.Copying.{Cells}
use Rattle.collecting.proofs.collect_owners.Given as goal

abbrev pub invariant-loop-k : goal.invariant-loop-k
invariant-loop-k l = Cells (λ j. get_or l.seat (get_or l.owner (get_or l.rows j 0) 0 - 2048) 0) 0 l.n l.at l.initial.to l.to l.k
