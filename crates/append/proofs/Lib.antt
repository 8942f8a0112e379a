-- The proofs of the functions, and what they share.
pub mod Naming
pub mod AddSteps
