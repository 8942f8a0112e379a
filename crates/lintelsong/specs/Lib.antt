-- What the public contracts cite.
pub mod Closed
