-- What the loop of `home_of` keeps. See Answers.antt.
use Rattle.queues.proofs.Seeking.{Seeking}
use Rattle.slots.proofs.home_of.Given as goal

abbrev pub invariant-loop-i : goal.invariant-loop-i
invariant-loop-i l = Seeking l.home l.n l.position l.k l.i l.behind
