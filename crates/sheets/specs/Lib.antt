-- What the contracts of sheets cite beside what a sheet is answered by (crate sheet_rows).
pub mod Steps
