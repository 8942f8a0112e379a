-- What the contracts of the sheet's crates cite: what a sheet is answered by (Answer), and what a row asks a fill for (Asking).
pub mod Answer
pub mod Asking
