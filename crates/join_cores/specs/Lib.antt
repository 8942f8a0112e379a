-- What the contract of the export cites of lent columns.
pub mod Lent
