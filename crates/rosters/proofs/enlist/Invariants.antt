-- What the loop of `enlist` keeps. See Answers.antt.
use Rattle.rosters.specs.Rosters.{Listed}
use Rattle.rosters.proofs.enlist.Given as goal

abbrev pub invariant-loop-g : goal.invariant-loop-g
invariant-loop-g l = Listed l.roster l.g l.home l.member
