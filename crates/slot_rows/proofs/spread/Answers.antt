-- `slot_rows::spread` meets its contract: the columns lent are the columns of the table, up to the place that the loop stands at.
-- Assumes nothing.
use mathlib.Core.Path.{◌∙◌}
use Rattle.slot_rows.proofs.Tables.{copied_start, copied_step, copied_end, ints_of_at, exts_of_at, ints_of_long, exts_of_long}
use Rattle.slot_rows.proofs.spread.Goals as goal

pub loop-i-init : goal.loop-i-init
loop-i-init c = (copied_start _ c.told-ints, copied_start _ c.told-exts)

pub loop-i-preserved : goal.loop-i-preserved
loop-i-preserved c =
    let t = c.args.table.now in (
      rw (ints_of_at t c.loop-i.i) at (copied_step (ints_of_long t ∙ c.told-table) c.loop-i.invariant.0 c.loop-i-test.true),
      rw (exts_of_at t c.loop-i.i) at (copied_step (exts_of_long t ∙ c.told-table) c.loop-i.invariant.1 c.loop-i-test.true),
    )

pub returns : goal.returns
returns c =
    let t = c.args.table.now in (
      copied_end (ints_of_long t ∙ c.told-table) c.loop-i.invariant.0 c.loop-i-test.false,
      copied_end (exts_of_long t ∙ c.told-table) c.loop-i.invariant.1 c.loop-i-test.false,
    )
