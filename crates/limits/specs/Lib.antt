-- What the limits of a fill say.
pub mod Limits
