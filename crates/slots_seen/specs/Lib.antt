-- What is seen of slots in lent columns.
pub mod Slots
