-- What the contract of a group's set-up cites.
pub mod Told
