-- What the steps that build a line leave. Assumes nothing.
use Rattle.std.specs.Prelude.{◌≡◌, List, ◌++◌, ℕ, ◌+◌, ◌≤◌, length, take}

-- a piece, of at most `most` bytes, was put behind the first `at` bytes of a line: where it ends, and what stands before its end
pub record Puts (piece : List ℕ) (most at : ℕ) (line after : List ℕ) (r : ℕ) : Type 0 where
  pub ends : r ≡ at + length piece
  pub near : r ≤ at + most
  pub long : length after ≡ length line
  pub text : take r after ≡ take at line ++ piece
