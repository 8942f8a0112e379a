-- What other crates cite of numbers: rows of bytes.
pub mod Bytes
