-- A fill on columns: its entry and passes (Passing), and the whole (Fills).
pub mod Passing
pub mod Fills
