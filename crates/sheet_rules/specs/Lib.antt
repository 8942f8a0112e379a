-- The sheet, its text and its reading (Sheet), and which line is the first that is wrong (First).
pub mod Sheet
pub mod First
