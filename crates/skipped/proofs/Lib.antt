-- The proofs of the public calls, and the walk along a set.
pub mod Walk
