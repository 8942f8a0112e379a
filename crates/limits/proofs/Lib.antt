-- The rows that say skip, counted, and what the sizes say.
pub mod Counting
