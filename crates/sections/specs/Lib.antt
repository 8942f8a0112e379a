-- What reading a section leaves.
pub mod Steps
