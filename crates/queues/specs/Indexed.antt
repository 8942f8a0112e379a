-- The index of the names in the order (crate `index`) on the columns: when it is right, and how it is made anew. It is a function of the
-- names, so two buffers with the same accounts have the same index. Assumes nothing.
use Rattle.std.specs.Prelude.{◌≡◌, ℕ, drop}
use Rattle.columns.specs.Rows.{rows_of}
use Rattle.index.specs.Names.{index_of_names, indexed_by}
use Rattle.queues.specs.Cols.{Cols, number, with_numbers}

-- the index is that of the names in the order
abbrev pub Indexed : Cols → Type 0
Indexed c = drop 16 c.numbers ≡ index_of_names (rows_of (number c 3) c.accounts)

-- the columns with the index of the first names
unfoldable pub indexed_c : (places : ℕ) → Cols → Cols
indexed_c places c = with_numbers (indexed_by places c.accounts c.numbers) c
