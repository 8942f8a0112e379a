-- What the loops over the rows keep.
pub mod Seats
