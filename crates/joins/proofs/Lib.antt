-- Laws of the loops of a join: Shared (an account of both groups), Sums (the counts of slots).
pub mod Shared
pub mod Sums
