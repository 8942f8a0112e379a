-- What the contracts of a buffer's exports cite.
pub mod Told
