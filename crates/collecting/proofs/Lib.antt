-- What the loop over the members keeps.
pub mod Seats
