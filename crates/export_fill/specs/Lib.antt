-- What the contract of the export cites: what the three hold, and when they are well formed.
pub mod Held
