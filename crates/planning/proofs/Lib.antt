-- The law behind the proof of the chains.
pub mod Linking
