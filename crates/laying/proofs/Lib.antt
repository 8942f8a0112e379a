-- What the loops share with those that lay otherwise made columns: Raised (cells raised, and the values of a function, one a number).
pub mod Raised
