-- What the loop of `keys` keeps. See Answers.antt.
use Rattle.telling.proofs.KeyRows.{Keying}
use Rattle.telling.proofs.keys.Given as goal

abbrev pub invariant-loop-k : goal.invariant-loop-k
invariant-loop-k l = Keying l.n l.rows l.kind l.time l.hash l.initial.lts l.initial.hashes l.lts l.hashes l.k l.w
