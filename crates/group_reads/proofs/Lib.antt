-- What the reads share with those who call them: Looks (what is read off well formed columns is what the rules read off).
pub mod Looks
