-- What the loop of `raise` keeps, for each function that the type's sum is. See Answers.antt.
use mathlib.Core.List.{map}
use mathlib.Core.Path.{◌≡◌}
use Rattle.columns.proofs.Lays.{Laying}
use Rattle.laying.proofs.raise.Given as goal

abbrev pub invariant-loop-i : goal.invariant-loop-i
invariant-loop-i g l =
    let T : Type 0 = g.row.T.Denot in
    (f : T → T) → ((x sum : T) → g.T.Add.add_gives x l.by sum → sum ≡ f x) → Laying (map f l.x-items) l.to l.n l.initial.col l.col l.i
