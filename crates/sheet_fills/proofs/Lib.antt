-- The proofs of the functions, and the laws that they cite.
pub mod Laying
pub mod Filling
pub mod Lines
