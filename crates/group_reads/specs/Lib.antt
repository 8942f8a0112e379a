-- What the reads of a group cite: Shown (what the rules read off a group, as values), Lent (the same read off lent columns).
pub mod Shown
pub mod Lent
