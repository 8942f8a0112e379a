-- What holds of the pieces of a line (Pieces), and lines worked out (Cases).
pub mod Pieces
pub mod Cases
