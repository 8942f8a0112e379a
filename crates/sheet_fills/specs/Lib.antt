-- What the skip rows of a sheet mean, laid out, and what a fill with them leaves.
pub mod Steps
