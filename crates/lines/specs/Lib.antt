-- What reading lines leaves.
pub mod Steps
