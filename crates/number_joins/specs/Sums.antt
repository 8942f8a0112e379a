-- When the numbers of two groups can be added. Assumes nothing.
use Rattle.std.specs.Prelude.{◌≡◌, List, ℕ, ◌+◌, ◌≤◌, ◌<◌, length, get_or}

-- the numbers of two groups can be added
pub record Summable (first : ℕ) (ns ns2 : List ℕ) : Type 0 where
  pub many : length ns ≡ 16
  pub many2 : length ns2 ≡ 16
  pub low : (i : ℕ) → 1 ≤ i → i ≤ 5 → get_or ns i 0 + get_or ns2 i 0 < 65536
  pub next : first ≤ 65536
