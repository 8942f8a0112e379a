-- What the loop of `shelf::joined` keeps. See Answers.antt.
use Prim.Native.Nat.{◌-◌, ◌≤◌}
use Rattle.lintelsong.specs.Closed.{GoodGroup}
use Rattle.desk.specs.Shelves.{JoinsOn}
use Rattle.desk.proofs.shelf.joined.Given as goal

-- the groups are what so many joins leave
abbrev pub invariant-loop-count : goal.invariant-loop-count
invariant-loop-count l = record {
  good : GoodGroup l.j.left × GoodGroup l.j.right;
  within : l._count - 1 ≤ l.times - 1;
  joined : JoinsOn (l._count - 1) l.fn.l l.fn.r l.j.code l.j.left l.j.right;
}
