-- Naming: accounts and their numbers. Said, Judged, Says: what the marks and the costs say. Tabs, Houses, Members: the group's accounts.
-- Slotted, Facts, Parties: what a well-formed call has. Links: the chains of the queues. Classes: the rows. Begins: the columns hold the
-- call on numbers (`entry_sizes`, `entry_begins`, `entry_agrees`). Renamed, Answered: a fill in bytes is the fill on numbers, renamed.
-- Slots: what is read off the group besides. Lents: fresh columns.
pub mod Naming
pub mod Said
pub mod Tabs
pub mod Houses
pub mod Members
pub mod Judged
pub mod Slotted
pub mod Facts
pub mod Parties
pub mod Says
pub mod Links
pub mod Classes
pub mod Begins
pub mod Renamed
pub mod Answered
pub mod Slots
pub mod Lents
