-- The lines that answer a sheet.
pub mod Answer
