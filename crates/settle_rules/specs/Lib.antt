-- What the columns of a settled fill mean, and what has to be known of the numbers (Facts); what the end of a fill needs and leaves (Settling).
pub mod Facts
pub mod Settling
