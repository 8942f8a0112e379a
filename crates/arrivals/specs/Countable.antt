-- The numbers can grow: none of the counts is near the end of its width. Assumes nothing.
use Rattle.std.specs.Prelude.{◌≡◌, List, ℕ, ◌<◌, length, get_or}

pub record Countable (numbers : List ℕ) : Type 0 where
  pub many : length numbers ≡ 528
  pub messages : get_or numbers 2 0 < 4096
  pub places : get_or numbers 3 0 < 4096
  pub ints : get_or numbers 4 0 < 4096
  pub exts : get_or numbers 5 0 < 4096
