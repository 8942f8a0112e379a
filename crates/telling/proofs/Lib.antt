-- What the loop over the rows taken keeps.
pub mod KeyRows
