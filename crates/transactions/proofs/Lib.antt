-- Laws that the proofs of a transaction's steps share.
pub mod Steps
