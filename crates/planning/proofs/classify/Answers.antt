-- `planning::classify` meets its contract: the loop lays the table of the classes over the column (Tables, crate `entry`). Assumes nothing.
use native.Mathlib.Omega.{arith}
use mathlib.Core.Path.{sym, ◌∙◌}
use Rattle.entry.specs.Entry.{classes_c}
use Rattle.entry.proofs.Tables.{table_start, table_end, front_step}
use Rattle.planning.proofs.classify.Goals as goal
use Rattle.planning.proofs.classify.Goals.{else-droppable, then-droppable}

pub loop-i-init : goal.loop-i-init
loop-i-init c = table_start _ _ _ _

pub loop-i-preserved : goal.loop-i-preserved
loop-i-preserved c =
    let e = c.droppable.ensures in
    front_step c.loop-i.invariant (omega arith) (omega arith) _
    (c.from.ensures ∙ elim c.if-droppable.branch [
      | then-droppable w ↦ w.class-is ∙ rw (sym e ∙ w.if-droppable.true)
      | else-droppable w ↦ w.class-is ∙ rw (sym e ∙ w.if-droppable.false)
    ])

pub returns : goal.returns
unfolding classes_c
returns c = table_end c.loop-i.invariant (omega arith)
