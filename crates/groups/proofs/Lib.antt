-- What the proofs of the public calls share: SetUp (both answers of a set-up).
pub mod SetUp
