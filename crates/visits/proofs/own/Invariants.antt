-- What the loop of `own` keeps, and what falls with each turn. See Answers.antt.
use Prim.Native.Nat.{◌-◌}
use Rattle.moves.specs.Moves.{alone}
use Rattle.meaning.specs.Meaning.{columns}
use Rattle.meaning.specs.Walks.{own_c}
use Rattle.visits.proofs.Steps.{Along}
use Rattle.visits.proofs.own.Given as goal

abbrev pub invariant-loop-next : goal.invariant-loop-next
invariant-loop-next l =
    Along l.plan l.cost l.fixed l.slot l.roster l.count
    (own_c l.plan l.cost l.fixed l.slot l.count 0
    (columns l.initial.owner l.initial.taken l.initial.home l.initial.member (alone l.slot l.initial.«record».ints) (alone l.slot l.initial.«record».exts) l.initial.mark l.initial.joined l.initial.now)) l.next
    (columns l.owner l.taken l.home l.member (alone l.slot l.«record».ints) (alone l.slot l.«record».exts) l.mark l.joined l.now)

abbrev pub decreases-loop-next : goal.decreases-loop-next
decreases-loop-next l = l.count - l.next
