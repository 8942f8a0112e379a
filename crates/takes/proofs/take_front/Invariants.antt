-- What the loop of `take_front` keeps, and what falls with each turn. See Answers.antt.
use Prim.Native.Nat.{◌-◌}
use Rattle.takes.proofs.Takes.{Inv}
use Rattle.moves.proofs.Chains.{Along}
use Rattle.takes.proofs.take_front.Given as goal

abbrev pub invariant-loop-i : goal.invariant-loop-i
invariant-loop-i l =
    Inv l.initial.owner l.plan l.initial.taken l.rows l.wanted l.place l.from l.owner l.taken l.i l.got l.ints l.pops × Along l.plan l.rows l.place l.owner l.i

abbrev pub decreases-loop-i : goal.decreases-loop-i
decreases-loop-i l = l.rows - l.i
