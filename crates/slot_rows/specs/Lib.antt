-- What the contracts cite: the columns of a table of slot records.
pub mod Rows
