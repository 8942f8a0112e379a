-- The proofs of the functions, and the laws that they cite.
pub mod Filling
pub mod Tables
pub mod Playing
