-- A theorem for each call: LookRule (what is read off); AddRule and AddGood (over AddCells, AddOrder); RemoveRule and RemoveGood (over Packs,
-- CompactRule, Finds); TransactRule (over HalfCells, TransactCols). Unique and Told: two buffers that mean the same are the same.
pub mod LookRule
pub mod AddCells
pub mod AddOrder
pub mod AddRule
pub mod AddGood
pub mod Packs
pub mod CompactRule
pub mod Finds
pub mod RemoveRule
pub mod RemoveGood
pub mod HalfCells
pub mod TransactCols
pub mod TransactRule
pub mod Unique
pub mod Told
