-- What the front of the slots to be opened becomes.
pub mod Fronts
