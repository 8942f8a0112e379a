-- When a column can be cleared, and when it is.
pub mod Clear
