-- The laws of a roster that the proofs of the routines and other crates cite.
pub mod Rosters
