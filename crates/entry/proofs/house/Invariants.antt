-- What the loop of `house` keeps. See Answers.antt.
use Rattle.entry.proofs.Tables.{Housing}
use Rattle.entry.proofs.house.Given as goal

abbrev pub invariant-loop-g : goal.invariant-loop-g
invariant-loop-g l = Housing l.homes l.member l.n l.initial.home l.home l.g
