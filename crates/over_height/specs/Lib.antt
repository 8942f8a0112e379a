-- When a slot is above the height.
pub mod Heights
