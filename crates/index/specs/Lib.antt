-- The index of names in an account order, as a function of the names; what a search relies on.
pub mod Names
pub mod Needs
