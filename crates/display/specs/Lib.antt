-- The line that a group is shown by, and what the steps that build it leave.
pub mod Line
pub mod Pieces
