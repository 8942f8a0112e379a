-- The laws behind the proof of the run.
pub mod Keeps
