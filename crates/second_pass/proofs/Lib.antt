-- The laws behind the proofs of the routines.
pub mod Steps
