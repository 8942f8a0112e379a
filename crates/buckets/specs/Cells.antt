-- "The index is one list of slot numbers for each count from 0 to 16", as 1,088 cells: bucket c is the 64 cells from 64 c on, its entries
-- stand gapless at the front, and a mark stands in each cell behind them. Assumes nothing.
use Rattle.std.specs.Prelude.{◌≡◌, cond, List, [], ◌∷◌, ◌++◌, ℕ, ◌-◌, ◌*◌, ◌<◌, ltb, length, take, drop, replicate}
use Rattle.rules.specs.Demand.{OnceN}
use Rattle.columns.specs.Lists.{tab_i}

-- "a mark for no entry (not 0 or 65,535, both slot numbers)"
abbrev pub mark : ℕ
mark = 65536

-- the entries of a bucket: its cells up to the first mark
unfoldable pub up_to : List ℕ → List ℕ
up_to [] = []
up_to (n ∷ cells) = cond (ltb n mark) (n ∷ up_to cells) []

-- the 64 cells of bucket c
unfoldable pub cells_of : List ℕ → ℕ → List ℕ
cells_of cells c = take 64 (drop (64 * c) cells)

unfoldable pub bucket_of : List ℕ → ℕ → List ℕ
bucket_of cells c = up_to (cells_of cells c)

-- the seventeen buckets as the rules have them
unfoldable pub index : List ℕ → List (List ℕ)
index cells = tab_i 17 0 (bucket_of cells)

-- marks behind the entries, and no entry twice
pub record GoodBucket (cells : List ℕ) : Type 0 where
  pub gapless : cells ≡ up_to cells ++ replicate (64 - length (up_to cells)) mark
  pub once : OnceN (up_to cells)

pub record GoodBuckets (cells : List ℕ) : Type 0 where
  pub size : length cells ≡ 1088
  pub each : (c : ℕ) → c < 17 → GoodBucket (cells_of cells c)
