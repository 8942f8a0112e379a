-- What seating those that stay leaves, and what counting the externals of those that go needs. Assumes nothing.
use Rattle.std.specs.Prelude.{◌≡◌, Bool, not, List, ℕ, ◌≤◌, ◌<◌, length, get_or}
use Rattle.columns.specs.Lists.{rank}
use Rattle.queues.specs.Compact.{seats_c}

-- the seats that a places get, and how many stay
pub record Seated (goes : ℕ → Bool) (a : ℕ) (seats₀ seats' : List ℕ) (r : ℕ) : Type 0 where
  pub seats : seats' ≡ seats_c goes a seats₀
  pub stay : r ≡ rank (λ p. not (goes p)) a

-- the first n messages have owners that have a seat
pub record Owned (n : ℕ) (owner : List ℕ) (kind_rows seats : ℕ) : Type 0 where
  pub few : n ≤ 1024
  pub rows : length owner ≡ 2048
  pub kinds : kind_rows ≡ 2048
  pub table : seats ≡ 256
  pub owners : (i : ℕ) → i < n → get_or owner i 0 < 256
