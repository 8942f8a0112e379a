-- Seating is what the loops keep, Staying what well-formed columns give a removal, and what is known of those that stay.
pub mod Seating
pub mod Staying
