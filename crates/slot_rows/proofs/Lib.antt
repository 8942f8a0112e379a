-- The columns of a table.
pub mod Tables
