-- A flat column: 32 bytes a row. Assumes nothing.
use Rattle.std.specs.Prelude.{Bool, cond, List, [], ◌∷◌, ◌++◌, ℕ, zero, suc, ◌*◌, take, drop}
use Rattle.numbers.specs.Bytes.{eq_l, zeros}
use Rattle.columns.specs.Laid.{packed}

-- row i of a flat column
unfoldable pub row_at : List ℕ → ℕ → List ℕ
row_at bytes i = take 32 (drop (32 * i) bytes)

-- the first n rows
unfoldable pub rows_of : ℕ → List ℕ → List (List ℕ)
rows_of zero bytes = []
rows_of (suc n) bytes = take 32 bytes ∷ rows_of n (drop 32 bytes)

-- rows one behind the other
unfoldable pub flat : List (List ℕ) → List ℕ
flat [] = []
flat (r ∷ rs) = r ++ flat rs

-- the first n rows packed, the bytes behind them as they are
unfoldable pub packed_rows : (ℕ → Bool) → ℕ → List ℕ → List ℕ
packed_rows t n bytes = flat (packed zeros t n (rows_of n bytes)) ++ drop (32 * n) bytes

-- the index of the first row that is x, how many rows there are if none is
unfoldable pub index_of : List ℕ → List (List ℕ) → ℕ
index_of x [] = 0
index_of x (r ∷ rs) = cond (eq_l r x) 0 (suc (index_of x rs))
