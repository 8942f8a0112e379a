-- What the proofs share, with those of the exports: Answers (what a call gives, with its code as a number).
pub mod Answers
