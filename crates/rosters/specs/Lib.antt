-- The roster of the slots, and what a roster of the members says.
pub mod Rosters
