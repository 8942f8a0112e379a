-- What the contracts of merging cite.
pub mod Merges
