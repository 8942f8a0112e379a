-- What the proofs share: Answers (what a set-up gives), LastTold (what is told of the last slot number).
pub mod Answers
pub mod LastTold
