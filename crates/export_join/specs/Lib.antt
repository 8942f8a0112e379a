-- What the contract of the export cites: a group's columns, and when it is well formed.
pub mod Held
