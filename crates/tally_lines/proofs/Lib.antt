-- What holds of the pieces of a line.
pub mod Lines
