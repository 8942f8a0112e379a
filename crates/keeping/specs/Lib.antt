-- What the numbers say of a transaction.
pub mod Marks
