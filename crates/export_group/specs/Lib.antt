-- What the contracts of the exports cite: a group's columns, and when it is well formed.
pub mod Held
