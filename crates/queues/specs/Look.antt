-- What is read off the columns without a change. Assumes nothing.
use Rattle.std.specs.Prelude.{List, ℕ, eqb, get_or}
use Rattle.columns.specs.Lists.{pick, count_i}
use Rattle.columns.specs.Rows.{rows_of, index_of}

-- the place of account x among the first n rows; n if it has none
abbrev pub seat_of : List ℕ → ℕ → List ℕ → ℕ
seat_of accounts n x = index_of x (rows_of n accounts)

-- how many of the first n messages belong to place p
abbrev pub owned_by : List ℕ → ℕ → ℕ → ℕ
owned_by owner n p = count_i (λ i o. eqb o p) n 0 owner

-- the row of the k-th message of place p among the first n; n if it has no such message
abbrev pub row_of : List ℕ → (n p k : ℕ) → ℕ
row_of owner n p k = get_or (pick (λ i. i) p n 0 owner) k n
