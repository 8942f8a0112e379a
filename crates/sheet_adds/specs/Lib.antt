-- What each step of answering a sheet leaves.
pub mod Steps
