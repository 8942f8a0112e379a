-- What the packing needs and leaves.
pub mod Settling
