-- What the loop of `decimal::read` keeps. See Answers.antt.
use Rattle.words.proofs.Reading.{Reading}
use Rattle.words.proofs.decimal.read.Given as goal

abbrev pub invariant-loop-b : goal.invariant-loop-b
invariant-loop-b l = Reading l.word l.value l.b-index
