-- A sheet from its sections.
pub mod Sections
