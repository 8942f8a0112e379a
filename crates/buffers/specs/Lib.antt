-- What the public contracts of a buffer cite.
pub mod Buffers
