-- What the end of a fill leaves in the columns. Read them in this order.
pub mod Copies
pub mod Ends
