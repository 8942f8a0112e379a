-- What the loops of the entry keep: Tables (a table laid over a column, homes given out), Parties (an account of the group, by the row found),
-- Listing (the slots listed below the height).
pub mod Tables
pub mod Parties
pub mod Listing
