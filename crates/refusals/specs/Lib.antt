-- When a fill is refused.
pub mod Refusals
