-- What a join asks of the numbers of two groups and of the counts of slots: few slots and accounts, and sums that fit. Assumes nothing.
use Rattle.std.specs.Prelude.{List, ℕ, ◌+◌, ◌≤◌, ◌<◌, get_or}

-- the numbers of a group
pub record Rooms (ns : List ℕ) : Type 0 where
  pub slots : get_or ns 1 0 ≤ 64
  pub held : get_or ns 2 0 ≤ 1024
  pub last : get_or ns 6 0 ≤ 65535

pub record Countable (n : ℕ) (ints exts : List ℕ) : Type 0 where
  pub few : n ≤ 64
  pub low : (i : ℕ) → i < n → get_or ints i 0 + get_or exts i 0 < 256
