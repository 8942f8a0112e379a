-- What holds of the definitions in specs/, for every crate that compares rows of bytes.
pub mod Bytes
