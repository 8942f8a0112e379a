-- What the proofs of a join share: Cleared (what a group holds is in use, and cleared it is fresh), Merging (what each part needs, and what the
-- parts make together).
pub mod Cleared
pub mod Merging
