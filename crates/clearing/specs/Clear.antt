-- A column of which the first cells are in use, and one that is clear. Assumes nothing.
use Rattle.std.specs.Prelude.{◌≡◌, List, ℕ, ◌≤◌, length, replicate}
use Rattle.queues.specs.Good.{Zeros}

-- of a column of this size the first n cells are in use
pub record InUse (n size : ℕ) (col : List ℕ) : Type 0 where
  pub long : length col ≡ size
  pub few : n ≤ size
  pub past : Zeros col n size

abbrev pub Clear : (size : ℕ) → List ℕ → Type 0
Clear size col = col ≡ replicate size 0
