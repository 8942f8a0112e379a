-- What the reads share with those who call them: Looks (what is read off the numbers of a well formed buffer is what the rules read off).
pub mod Looks
