-- What the entry of a fill leaves in each of its columns.
pub mod Entry
