-- `slot_rows::gather` meets its contract: the columns of the table are the columns lent, up to the place that the loop stands at.
-- Assumes nothing.
use Rattle.slot_rows.proofs.Tables.{copied_start, copied_step, copied_end, ints_of_set, exts_of_set, ints_of_long, exts_of_long}
use Rattle.slot_rows.proofs.gather.Goals as goal

pub loop-i-init : goal.loop-i-init
loop-i-init c = (copied_start _ (ints_of_long _), copied_start _ (exts_of_long _))

pub loop-i-preserved : goal.loop-i-preserved
loop-i-preserved c = (
  rw (ints_of_set c.loop-i.record-items c.loop-i.i _) (copied_step c.told-ints c.loop-i.invariant.0 c.loop-i-test.true),
  rw (exts_of_set c.loop-i.record-items c.loop-i.i _) (copied_step c.told-exts c.loop-i.invariant.1 c.loop-i-test.true),
)

pub returns : goal.returns
returns c = (copied_end c.told-ints c.loop-i.invariant.0 c.loop-i-test.false, copied_end c.told-exts c.loop-i.invariant.1 c.loop-i-test.false)
