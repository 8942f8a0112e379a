-- An answer of the columns as an answer of the rules; all that a buffer means.
pub mod Ruled
pub mod Told
