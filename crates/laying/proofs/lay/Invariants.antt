-- What the loop of `lay` keeps. See Answers.antt.
use lib.ListN.{take}
use Rattle.columns.proofs.Lays.{Laying}
use Rattle.laying.proofs.lay.Given as goal

abbrev pub invariant-loop-i : goal.invariant-loop-i
invariant-loop-i g l = Laying (take l.n l.from) l.to l.n l.initial.col l.col l.i
