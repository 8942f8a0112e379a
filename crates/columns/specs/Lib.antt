-- Columns of numbers as lists, and what the loops over them compute. Read them in this order.
pub mod Lists
pub mod Laid
pub mod Rows
