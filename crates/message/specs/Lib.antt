-- What the contracts cite: the numbers of the answers, the record read, the world of real messages for the rules, and what a walk gives.
pub mod Answers
pub mod Records
pub mod Real
pub mod Seen
