-- What the loop of `rebuild` keeps. See Answers.antt.
use Rattle.index.proofs.Rebuilding.{Rebuilding}
use Rattle.index.proofs.rebuild.Given as goal

abbrev pub invariant-loop-place : goal.invariant-loop-place
invariant-loop-place l = Rebuilding l.accounts l.places l.initial.numbers l.numbers l.place
