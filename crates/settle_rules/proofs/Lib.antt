-- What the end of a fill leaves means what the rules say: `buffer_after_lem` and `store_after` (BufferAfter), `keys_after` (KeysAfter), `set_after`
-- (SetAfter), `lists_after` and `slots_after` (GroupAfter), `in_last` and the counts (InCounts), `index_after` and `group_after_lem` (WholeGroup).
-- It is well formed: `good_buffer_after` (GoodBuffer), `good_group_after` (GoodGroup, with Homes).
-- What they ask of the numbers comes from the entry and is kept by a run: `run_traced` (RunTraced), and `buffer_facts`, `key_facts` and
-- `group_facts` (FactsAfter); what a run leaves behind the slots, and the numbers of those it opens: `run_blank`, `run_slots`, `run_numbers`,
-- `run_new` (RunBlank). The laws of lists are in Maps and RowsLaid.
pub mod Maps
pub mod BufferAfter
pub mod GoodBuffer
pub mod KeysAfter
pub mod SetAfter
pub mod RowsLaid
pub mod GroupAfter
pub mod InCounts
pub mod WholeGroup
pub mod Homes
pub mod GoodGroup
pub mod Traces
pub mod RunTraced
pub mod RunBlank
pub mod FactsAfter
