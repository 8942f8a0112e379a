-- What a fill by value is called on and leaves.
pub mod Filling
