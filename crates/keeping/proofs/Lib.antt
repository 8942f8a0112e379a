-- Codes: the code by the mark of an open transaction, and what a code says of the mark.
pub mod Codes
