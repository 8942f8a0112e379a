-- What the loop of `find` keeps, and what falls with each turn. See Answers.antt.
use Rattle.index.proofs.Searching.{Searching}
use Rattle.index.proofs.find.Given as goal

abbrev pub invariant-loop-next : goal.invariant-loop-next
invariant-loop-next l = Searching l.accounts l.places l.x l.next

abbrev pub decreases-loop-next : goal.decreases-loop-next
decreases-loop-next l = l.next
