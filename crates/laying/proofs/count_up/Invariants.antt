-- What the loop of `count_up` keeps. See Answers.antt.
use Rattle.columns.specs.Lists.{tab_i}
use Rattle.columns.proofs.Lays.{Laying}
use Rattle.laying.proofs.count_up.Given as goal

abbrev pub invariant-loop-i : goal.invariant-loop-i
invariant-loop-i l = Laying (tab_i l.n l.first (λ k. k)) 0 l.n l.initial.cell-items l.cell-items l.i
