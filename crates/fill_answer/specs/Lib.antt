-- What a fill answers, and what stands in numbers.
pub mod Answers
