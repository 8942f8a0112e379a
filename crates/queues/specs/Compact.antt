-- Columns packed: messages that are gone leave no row, accounts that are gone no place. `seats` says of each place which one it becomes, or
-- that it goes, by a mark that is no place. A removal packs so, and so does the end of a fill. Assumes nothing.
use Rattle.std.specs.Prelude.{◌≡◌, Bool, cond, not, ◌&&◌, List, ℕ, ◌+◌, ◌-◌, ◌/◌, eqb, ltb, leb, get_or, set, length, replicate, Err}
use Rattle.columns.specs.Lists.{map_i, count_i, rank}
use Rattle.columns.specs.Laid.{is_place, held, packed}
use Rattle.columns.specs.Rows.{row_at, rows_of, packed_rows, index_of}
use Rattle.message.specs.Answers.{Code, Done}
use Rattle.message.specs.declared.Refusal.TheVariants.{HoldsExternal}
use Rattle.queues.specs.Cols.{Cols, number, with_numbers}
use Rattle.queues.specs.Indexed.{indexed_c}
use Rattle.queues.specs.Append.{Left, left}

-- the mark of an account or a message that goes; no place is so high
abbrev pub gone : ℕ
gone = 65535

-- an owner by its new place; marks stay
abbrev pub new_place : List ℕ → ℕ → ℕ → ℕ
new_place seats i o = cond (is_place o) (get_or seats o 0) o

unfoldable pub moved_c : (n : ℕ) (seats : List ℕ) → List ℕ → List ℕ
moved_c n seats owner = map_i (new_place seats) n 0 owner

-- the columns of n messages and a accounts packed, owner being the new places already
unfoldable pub packed_c : (n a : ℕ) (seats owner : List ℕ) → Cols → Cols
packed_c n a seats owner c = record {
  owner = packed 0 (held owner) n owner;
  kind = packed 0 (held owner) n c.kind;
  form = packed 0 (held owner) n c.form;
  time = packed 0 (held owner) n c.time;
  address = packed_rows (held owner) n c.address;
  hash = packed_rows (held owner) n c.hash;
  accounts = packed_rows (held seats) a c.accounts;
  numbers = c.numbers;
}

unfoldable pub compact_c : (n a : ℕ) (seats : List ℕ) → Cols → Cols
compact_c n a seats c = packed_c n a seats (moved_c n seats c.owner) c

-- columns packed by their seats, and how many messages are left
pub record Compacted (n a : ℕ) (seats : List ℕ) (c₀ c : Cols) (r : ℕ) : Type 0 where
  pub cols : c ≡ compact_c n a seats c₀
  pub count : r ≡ rank (held (moved_c n seats c₀.owner)) n

-- ---- a removal

-- place p of the accounts is named by one of the k names
unfoldable pub named_c : (names : List ℕ) (k : ℕ) (accounts : List ℕ) → ℕ → Bool
named_c names k accounts p = ltb (index_of (row_at accounts p) (rows_of k names)) k

-- the seats of a places, those for which the test fails moved up
unfoldable pub seats_c : (ℕ → Bool) → (a : ℕ) → List ℕ → List ℕ
seats_c goes a seats = map_i (λ p o. cond (goes p) o (rank (λ q. not (goes q)) p)) a 0 seats

-- how many of the first n messages are externals of a place that goes
unfoldable pub lost_externals : (seats kind : List ℕ) (n : ℕ) (owner : List ℕ) → ℕ
lost_externals seats kind n owner = count_i (λ i o. eqb (get_or kind i 0) 1 && not (is_place (get_or seats o 0))) n 0 owner

-- the numbers with r messages and b accounts left, the others having been internals
unfoldable pub left_numbers : (r b : ℕ) → List ℕ → List ℕ
left_numbers r b ns = set (set (set ns 2 r) 3 b) 4 (get_or ns 4 0 - (get_or ns 2 0 - r))

-- the places named, and the seats that they leave
abbrev pub goes_c : List ℕ → Cols → ℕ → Bool
goes_c names c = named_c names (length names / 32) c.accounts

unfoldable pub seats_of : List ℕ → Cols → List ℕ
seats_of names c = seats_c (goes_c names c) (number c 3) (replicate 256 gone)

-- the columns without the accounts that `seats` has go, `stay` of which stay; the index as it was
unfoldable pub removed_c : (seats : List ℕ) (stay : ℕ) → Cols → Cols
removed_c seats stay c =
    with_numbers (left_numbers (rank (held (moved_c (number c 2) seats c.owner)) (number c 2)) stay c.numbers) (compact_c (number c 2) (number c 3) seats c)

-- how many accounts a removal leaves
abbrev pub stay_c : List ℕ → Cols → ℕ
stay_c names c = rank (λ p. not (goes_c names c p)) (number c 3)

-- "remove: a named account's queue holds an external"
unfoldable pub remove_c : List ℕ → Cols → Left
remove_c names c =
    cond (eqb (lost_externals (seats_of names c) c.kind (number c 2) c.owner) 0)
    (left Done (indexed_c (stay_c names c) (removed_c (seats_of names c) (stay_c names c) c)))
    (left (Err HoldsExternal) c)
