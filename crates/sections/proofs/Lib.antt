-- The proofs of the functions, and the laws that they cite.
pub mod Counting
