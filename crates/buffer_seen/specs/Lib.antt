-- What the walk of a buffer cites.
pub mod Lent
