-- The laws behind the proofs of the routines.
pub mod Steps
pub mod Records
