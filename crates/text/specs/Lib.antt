-- What the contracts of text cite: a reading laid out in tables.
pub mod Steps
