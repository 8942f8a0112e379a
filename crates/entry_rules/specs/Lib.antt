-- A fill on numbers: how accounts are numbered (Naming), and what a fill is called on, in bytes and on numbers (Calling).
pub mod Naming
pub mod Calling
