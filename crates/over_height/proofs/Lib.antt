-- What the look keeps.
pub mod Looks
