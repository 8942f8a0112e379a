-- What the loop of `wanted` keeps, and what falls with each turn. See Answers.antt.
use Prim.Native.Nat.{◌-◌}
use Rattle.moves.proofs.Chains.{Counting}
use Rattle.takes.proofs.wanted.Given as goal

abbrev pub invariant-loop-i : goal.invariant-loop-i
invariant-loop-i l = Counting l.plan l.rows l.place l.owner l.room l.count l.i

abbrev pub decreases-loop-i : goal.decreases-loop-i
decreases-loop-i l = l.rows - l.i
