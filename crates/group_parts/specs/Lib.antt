-- Answers of a group in numbers.
pub mod Told
