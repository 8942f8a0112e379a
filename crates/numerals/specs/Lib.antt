-- What reading a number leaves.
pub mod Steps
