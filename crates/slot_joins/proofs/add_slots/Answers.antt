-- `slot_joins::add_slots` meets its contract: the new numbers stand in their column, none is listed yet, and each bucket has room
-- (proofs/Listed.antt). Assumes nothing.
use Rattle.slot_joins.proofs.Listed.{ends, listable, slots_added}
use Rattle.slot_joins.proofs.add_slots.Goals as goal

pub slice_bounds-list_new-end : goal.slice_bounds-list_new-end
slice_bounds-list_new-end c = ends _ _ c.requires c.join_slots.ensures.number

pub list_new-made-requires : goal.list_new-made-requires
list_new-made-requires c =
    let counts = c.counts_of-counts in
    listable _ _ c.requires c.join_slots.ensures.number _ (record { long = counts.ensures.0; each = counts.ensures.1 })

pub returns : goal.returns
returns c =
    let counts = c.counts_of-counts in
    slots_added _ _ c.requires c.join_slots.ensures.number c.join_slots.ensures _
    (record { long = counts.ensures.0; each = counts.ensures.1 }) _ c.list_new-made.ensures
