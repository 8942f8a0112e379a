-- What the loop of `first` keeps, and what falls with each turn. See Answers.antt.
use mathlib.Core.List.{[]}
use Rattle.slot_rows.specs.Rows.{ints_of, exts_of}
use Rattle.meaning.specs.Meaning.{columns}
use Rattle.meaning.specs.Passes.{first_c}
use Rattle.openings.proofs.Steps.{First}
use Rattle.openings.proofs.first.Given as goal

abbrev pub invariant-loop-front : goal.invariant-loop-front
invariant-loop-front l =
    First l.plan l.cost l.fixed (first_c l.plan l.cost l.fixed l.opens [] l.initial.number l.slots l.initial.front.given 0
    (columns l.initial.owner l.initial.taken l.initial.home l.initial.member (ints_of l.initial.table) (exts_of l.initial.table) l.initial.mark l.initial.joined l.initial.now))
    l.line l.tail l.front.left l.number l.front.slot l.front.given l.at (columns l.owner l.taken l.home l.member (ints_of l.table) (exts_of l.table) l.mark l.joined l.now)

abbrev pub decreases-loop-front : goal.decreases-loop-front
decreases-loop-front l =
    l.front.left
