-- The law behind the proof of a take.
pub mod Takes
