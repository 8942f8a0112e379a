-- What the inner steps of a transaction need.
pub mod Halves
