-- What the rows of a join need.
pub mod Rooms
