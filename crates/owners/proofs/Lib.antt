-- What loops over a column share: Passing.
pub mod Passing
