-- What the loops of laying need.
pub mod Laying
