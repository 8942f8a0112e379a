-- What the loop of `serve` keeps, and what falls with each turn. See Answers.antt.
use Prim.Native.Nat.{◌-◌}
use Rattle.slot_rows.specs.Rows.{ints_of, exts_of}
use Rattle.meaning.specs.Meaning.{columns}
use Rattle.meaning.specs.Passes.{serve_c, line_in}
use Rattle.serving.proofs.Steps.{Line}
use Rattle.serving.proofs.serve.Given as goal

abbrev pub invariant-loop-fixed : goal.invariant-loop-fixed
invariant-loop-fixed l =
    Line l.plan l.cost l.fixed (serve_c l.plan l.cost l.fixed (line_in l.initial.line 0 l.tail) (l.fixed.places - l.from) l.from
    (columns l.initial.owner l.initial.taken l.initial.home l.initial.member (ints_of l.initial.table) (exts_of l.initial.table) l.initial.mark l.initial.joined l.initial.now)) l.line l.head
    l.back l.at (columns l.owner l.taken l.home l.member (ints_of l.table) (exts_of l.table) l.mark l.joined l.now)

abbrev pub decreases-loop-fixed : goal.decreases-loop-fixed
decreases-loop-fixed l =
    l.fixed.places - l.at
