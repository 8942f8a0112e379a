-- What the proofs of a fill's end share: Ends (what each part needs, and what the parts leave together).
pub mod Ends
