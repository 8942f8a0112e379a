-- What the public contracts of a group cite.
pub mod Groups
