-- What the reads of a buffer cite: Shown (what the rules read off a buffer, as values), Lent (the same read off its lent numbers).
pub mod Shown
pub mod Lent
