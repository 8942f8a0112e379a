-- `Whole`: what the fill needs at each of its calls, and that what they leave is what it promises.
pub mod Whole
