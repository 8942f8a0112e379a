-- What writing the next row needs and leaves.
pub mod Rows
