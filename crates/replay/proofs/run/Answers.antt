-- `replay::run` is safe and ends: all that it begins with is well formed. Assumes nothing.
use Rattle.replay.proofs.run.Goals as goal

pub fresh-requires : goal.fresh-requires
fresh-requires c = tt

pub fresh-requires-2 : goal.fresh-requires-2
fresh-requires-2 c = tt

pub fresh-requires-3 : goal.fresh-requires-3
fresh-requires-3 c = tt

pub fresh-requires-4 : goal.fresh-requires-4
fresh-requires-4 c = tt

pub lines-end-requires : goal.lines-end-requires
lines-end-requires c = (
  record { buffer = c.fresh.ensures; shelf = c.fresh-3.ensures; tray = c.fresh-2.ensures; keys = c.requires },
  c.fresh-4.ensures,
)
