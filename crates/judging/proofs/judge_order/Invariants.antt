-- What the loop of `judge_order` keeps. See Answers.antt.
use Rattle.entry.specs.Entry.{sayings}
use Rattle.judging.proofs.Judging.{Ordering}
use Rattle.judging.proofs.judge_order.Given as goal

abbrev pub invariant-loop-p : goal.invariant-loop-p
invariant-loop-p l = Ordering (sayings l.set l.k l.names l.verdicts l.costs l.n l.default) l.accounts l.places l.initial.mark l.initial.cost l.mark l.cost l.p
