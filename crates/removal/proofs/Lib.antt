-- Removing joins the calls of `remove` to its answer.
pub mod Removing
