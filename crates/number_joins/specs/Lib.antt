-- When the numbers of two groups can be added.
pub mod Sums
