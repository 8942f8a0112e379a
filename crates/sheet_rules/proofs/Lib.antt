-- Numbers as they are written (Numerals); what is read is what the text says (Texts); a reported line is the first (First, Begins); texts
-- worked out (Cases).
pub mod Numerals
pub mod Texts
pub mod First
pub mod Begins
pub mod Cases
