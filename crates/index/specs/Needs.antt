-- What a search for a name relies on: the index is that of the names, and no name stands twice. Assumes nothing.
use Rattle.std.specs.Prelude.{◌≡◌, List, ℕ, ◌*◌, ◌≤◌, ◌<◌, length, drop}
use Rattle.columns.specs.Rows.{row_at, rows_of}
use Rattle.index.specs.Names.{index_of_names}

pub record Sought (accounts : List ℕ) (places : ℕ) (numbers x : List ℕ) : Type 0 where
  pub bytes : 32 * places ≤ length accounts
  pub few : places ≤ 256
  pub index : drop 16 numbers ≡ index_of_names (rows_of places accounts)
  pub once : (i j : ℕ) → i < j → j < places → row_at accounts i ≡ row_at accounts j → ⊥
