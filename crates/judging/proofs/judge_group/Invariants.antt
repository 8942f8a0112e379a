-- What the loop of `judge_group` keeps. See Answers.antt.
use Rattle.entry.specs.Entry.{sayings}
use Rattle.judging.proofs.Judging.{Grouping}
use Rattle.judging.proofs.judge_group.Given as goal

abbrev pub invariant-loop-g : goal.invariant-loop-g
invariant-loop-g l = Grouping (sayings l.set l.k l.names l.verdicts l.costs l.n l.default) l.accounts l.member l.members l.initial.mark l.initial.cost l.mark l.cost l.g
