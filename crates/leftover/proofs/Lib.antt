-- What the loop over the kinds keeps.
pub mod Internals
