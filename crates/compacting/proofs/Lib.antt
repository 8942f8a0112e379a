-- Compacting joins the packings of `compact` to one equation.
pub mod Compacting
