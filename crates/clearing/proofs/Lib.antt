-- What the clears share: Cleared (a column whose cells in use are cleared).
pub mod Cleared
