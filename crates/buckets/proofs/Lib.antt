-- The laws of the cells and of one bucket, and what the loops leave of the whole index. What callers cite: `at_index` (Cells), `Small-at`
-- (Entries), `reindex_any` and `list_any` (Worlds), `may_reindex`, `may_list`, `few_listed` and `one_way` (Groups).
pub mod Cells
pub mod Entries
pub mod Below
pub mod Single
pub mod Picked
pub mod Leaving
pub mod Moving
pub mod Listing
pub mod Worlds
pub mod Groups
