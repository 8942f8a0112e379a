-- What the loop of `reach` keeps. See Answers.antt.
use Prim.Native.Nat.{◌-◌, ◌≤◌, max}
use Rattle.moves.specs.Moves.{alone}
use Rattle.meaning.specs.Meaning.{columns}
use Rattle.meaning.specs.Walks.{reach_c}
use Rattle.walks.proofs.Steps.{Going, Reach}
use Rattle.walks.proofs.reach.Given as goal

abbrev pub invariant-loop-at : goal.invariant-loop-at
invariant-loop-at l = record {
  upto : l.at ≤ max l.from l.fixed.places;
  going :
      Going l.fixed l.plan l.cost (Reach l.plan l.cost l.fixed l.slot)
      (reach_c l.plan l.cost l.fixed l.slot (l.fixed.places - l.from) l.from
      (columns l.initial.owner l.initial.taken l.initial.home l.initial.member (alone l.slot l.initial.«record».ints) (alone l.slot l.initial.«record».exts) l.initial.mark l.initial.joined l.initial.now)) l.at
      (columns l.owner l.taken l.home l.member (alone l.slot l.«record».ints) (alone l.slot l.«record».exts) l.mark l.joined l.now);
}
