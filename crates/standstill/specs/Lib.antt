-- When a fill has nothing to do.
pub mod Idle
