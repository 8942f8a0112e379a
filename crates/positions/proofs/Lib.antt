-- The turns of the search.
pub mod Steps
