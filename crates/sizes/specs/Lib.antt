-- What set-up cites.
pub mod Sizes
