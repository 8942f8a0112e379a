-- What the two passes over accounts and messages need and leave.
pub mod Seats
