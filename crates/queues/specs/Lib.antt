-- A buffer on columns: its columns as one value, what they mean, when they are well formed, what is read off them, and what each call
-- makes of them. Read them in this order.
pub mod Cols
pub mod Indexed
pub mod Meant
pub mod Good
pub mod Look
pub mod Append
pub mod Compact
pub mod Transact
