-- A group on columns: its columns as one value, what they mean, when they are well formed, and what a join makes of them. Read them in this
-- order.
pub mod Table
pub mod Meant
pub mod Good
pub mod Join
