-- What the contracts of words cite: what is cut out of a line, and what a row of digits stands for.
pub mod Cut
pub mod Digits
