-- What the contracts of timing cite.
pub mod Fills
