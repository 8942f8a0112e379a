-- `slot_joins::join_slots` meets its contract: what the three loops leave. Assumes nothing.
use Rattle.slot_joins.proofs.join_slots.Goals as goal

pub returns : goal.returns
returns c =
    record { number = c.count_up.ensures; ints = c.lay.ensures; exts = c.lay-2.ensures }
