-- What the loop of `join::shared` keeps. See Answers.antt.
use Rattle.joins.proofs.Shared.{Seeking}
use Rattle.joins.proofs.join.shared.Given as goal

abbrev pub invariant-loop-k : goal.invariant-loop-k
invariant-loop-k l = Seeking l.m l.left l.n l.right l.k
