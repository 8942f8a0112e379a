-- The seventeen buckets as one array of cells, and what the rules say of it. Read them in this order.
pub mod Cells
pub mod Moves
