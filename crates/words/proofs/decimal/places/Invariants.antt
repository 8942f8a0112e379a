-- What the loop of `decimal::places` keeps, and what falls with each turn. See Answers.antt.
use Rattle.words.proofs.Placing.{Placing}
use Rattle.words.proofs.decimal.places.Given as goal

abbrev pub invariant-loop-rest : goal.invariant-loop-rest
invariant-loop-rest l = Placing l.n l.k l.rest

abbrev pub decreases-loop-rest : goal.decreases-loop-rest
decreases-loop-rest l = l.rest
