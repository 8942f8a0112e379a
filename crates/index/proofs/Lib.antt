-- Chains (what the cells of an index are), Searching (a search along a chain), Cells (the numbers of a buffer with an index), Rebuilding
-- (the index made anew). What callers cite: `length_index` and `index_more` (Chains) and the laws of `with_index` (Cells).
pub mod Chains
pub mod Searching
pub mod Cells
pub mod Rebuilding
