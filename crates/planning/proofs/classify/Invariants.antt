-- What the loop of `classify` keeps. See Answers.antt.
use Rattle.entry.specs.Entry.{class_of}
use Rattle.entry.proofs.Tables.{Tabling}
use Rattle.planning.proofs.classify.Given as goal

abbrev pub invariant-loop-i : goal.invariant-loop-i
invariant-loop-i l = Tabling (class_of l.filter l.kind l.time) 0 l.n l.initial.plan l.plan l.i
