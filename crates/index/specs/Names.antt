-- The index of names as 512 cells that are a function of the names in their order. Cell p, for p below 256, is the link of place p: 1 + the
-- place before it with the same hash, 0 if there is none. Cell 256 + h is the head of hash h: 1 + the last place with that hash, 0 if
-- there is none. The links come first, so that no head is taken for a link, however great a hash may be. Assumes nothing.
use Rattle.std.specs.Prelude.{List, [], ◌∷◌, ◌++◌, ℕ, ◌+◌, get_or, set, take, replicate}
use Rattle.columns.specs.Rows.{rows_of}

-- the hash of a name: its last byte
abbrev pub hash_of : List ℕ → ℕ
hash_of name = get_or name 31 0

-- the place made the last one with this hash
unfoldable pub linked_c : (hash place : ℕ) → List ℕ → List ℕ
linked_c hash place cells = set (set cells place (get_or cells (256 + hash) 0)) (256 + hash) (place + 1)

abbrev pub enter_c : List ℕ → (place : ℕ) → List ℕ → List ℕ
enter_c name place cells = linked_c (hash_of name) place cells

-- the names entered one after the other, the first at this place
unfoldable pub entered : (place : ℕ) → List (List ℕ) → List ℕ → List ℕ
entered place [] cells = cells
entered place (name ∷ names) cells = entered (place + 1) names (enter_c name place cells)

-- the index of no name
unfoldable pub no_names : List ℕ
no_names = replicate 512 0

unfoldable pub index_of_names : List (List ℕ) → List ℕ
index_of_names names = entered 0 names no_names

-- the numbers of a buffer with these cells for an index
unfoldable pub with_index : List ℕ → List ℕ → List ℕ
with_index cells numbers = take 16 numbers ++ cells

-- and with the index of the first accounts of a column
abbrev pub indexed_by : (places : ℕ) → List ℕ → List ℕ → List ℕ
indexed_by places accounts numbers = with_index (index_of_names (rows_of places accounts)) numbers
