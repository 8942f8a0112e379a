-- What holds of the definitions in specs/, and of the loops that compute them.
pub mod Passing
pub mod Digits
pub mod Reading
pub mod Placing
pub mod Naming
pub mod Back
