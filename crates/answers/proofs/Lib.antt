-- What holds of the pieces of a line (Lines), and lines worked out (Cases).
pub mod Lines
pub mod Cases
