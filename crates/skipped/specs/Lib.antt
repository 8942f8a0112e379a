-- What the public contracts of a skipped set cite.
pub mod Sets
