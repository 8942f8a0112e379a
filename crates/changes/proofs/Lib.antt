-- What the proofs of the calls share: Answers (what a call gives).
pub mod Answers
