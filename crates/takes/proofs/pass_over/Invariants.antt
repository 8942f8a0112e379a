-- What the loop of `pass_over` keeps, and what falls with each turn. See Answers.antt.
use Prim.Native.Nat.{◌-◌}
use Rattle.moves.proofs.Chains.{Passing}
use Rattle.takes.proofs.pass_over.Given as goal

abbrev pub invariant-loop-i : goal.invariant-loop-i
invariant-loop-i l = Passing l.plan l.rows l.party l.initial.owner l.owner l.i

abbrev pub decreases-loop-i : goal.decreases-loop-i
decreases-loop-i l = l.rows - l.i
