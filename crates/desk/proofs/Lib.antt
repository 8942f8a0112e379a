-- The proofs of the functions, and lemmas on the shelf.
mod Shelves
