-- The laws behind the proof of a move.
pub mod Branches
