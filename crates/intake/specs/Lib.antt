-- What the contracts of intake cite.
pub mod Lines
