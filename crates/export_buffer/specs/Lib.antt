-- What the contracts of the exports cite: Lent (what a commit does to the lent numbers), Held (a buffer's columns, and when it is well formed).
pub mod Lent
pub mod Held
