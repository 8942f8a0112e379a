-- What counting one message more needs.
pub mod Countable
