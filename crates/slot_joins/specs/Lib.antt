-- What the slots of a join need and leave.
pub mod Slots
