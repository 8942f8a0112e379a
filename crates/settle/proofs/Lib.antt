-- The laws that the code of the end and the theorems about it share.
pub mod Copying
pub mod Counts
