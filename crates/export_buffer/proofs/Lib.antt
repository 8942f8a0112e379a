-- What the proofs share: what a commit gives.
pub mod Answers
