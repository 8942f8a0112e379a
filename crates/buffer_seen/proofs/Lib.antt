-- What the walk shares with those who call it: Looks (what is seen in well formed columns is what the rules see).
pub mod Looks
