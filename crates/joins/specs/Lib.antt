-- What a join asks of the numbers and the counts of two groups.
pub mod Laying
