-- What the loop of `join::counts_of` keeps. See Answers.antt.
use Prim.Native.Nat.{◌+◌}
use lib.ListN.{get_or}
use Rattle.columns.specs.Lists.{tab_i}
use Rattle.columns.proofs.Lays.{Laying}
use Rattle.joins.proofs.join.counts_of.Given as goal

abbrev pub invariant-loop-i : goal.invariant-loop-i
invariant-loop-i l = Laying (tab_i l.n 0 (λ k. get_or l.ints k 0 + get_or l.exts k 0)) 0 l.n l.initial.counts l.counts l.i
