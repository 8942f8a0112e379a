-- What the contracts cite: a check, passing over, a take and a move on columns, the columns that are well formed, and the chains of a plan.
pub mod Moves
pub mod Good
pub mod Linked
