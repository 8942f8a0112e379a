-- What those who call the reads of a group share: Looks (what is seen in well formed columns is what the rules see).
pub mod Looks
