-- What the proofs of the public calls share: Fresh (set-up).
pub mod Fresh
