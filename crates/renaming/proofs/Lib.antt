pub mod Rows
pub mod Passes
pub mod Calls
pub mod Store
pub mod Sub
pub mod In
pub mod Table
