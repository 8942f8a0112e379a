-- The laws that other crates cite stand in Laid, Tabs, Gathers, Scans, Packed, Rows, PackedRows and Index; Lays is what the loops keep
-- that copy, clear, read and write.
pub mod Laid
pub mod Lays
pub mod Tabs
pub mod Gathers
pub mod Scans
pub mod Packed
pub mod Rows
pub mod PackedRows
pub mod Index
