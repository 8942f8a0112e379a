-- The laws behind the proofs of the routines, and what other crates cite: that a check, passing over and a move keep columns well formed and
-- the queues chained; what a walk along a chain keeps; and what the column of one slot holds.
pub mod Alone
pub mod Counts
pub mod Branches
pub mod Chains
pub mod Keeps
