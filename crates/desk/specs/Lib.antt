-- What the contracts of the desk cite.
pub mod Desks
pub mod Shelves
