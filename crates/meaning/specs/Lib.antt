-- What the columns of a fill mean. Read them in this order.
pub mod Meaning
pub mod Walks
pub mod Passes
pub mod Means
pub mod Begins
