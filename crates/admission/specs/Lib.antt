-- What giving a seat leaves.
pub mod Seats
