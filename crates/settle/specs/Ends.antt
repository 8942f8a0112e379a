-- What a fill leaves of the buffer's columns, and the numbers of the buffer and of the group. Assumes nothing.
use Rattle.std.specs.Prelude.{Bool, cond, not, List, ℕ, zero, suc, ◌+◌, ◌-◌, ◌≤◌, ◌≡◌, eqb, length, get_or, set, take, replicate}
use Rattle.rules.specs.World.{is_nil}
use Rattle.columns.specs.Lists.{pick, count_i, rank}
use Rattle.columns.specs.Laid.{is_place, held, laid_at}
use Rattle.queues.specs.Cols.{Cols, number, with_numbers}
use Rattle.queues.specs.Indexed.{indexed_c}
use Rattle.queues.specs.Compact.{gone, moved_c, compact_c, seats_c}

-- ---- the buffer

-- the places that own one of the first n rows are marked
unfoldable pub held_by : (n : ℕ) (owner marks : List ℕ) → List ℕ
held_by zero owner marks = marks
held_by (suc n) owner marks =
    cond (is_place (get_or owner n 0)) (set (held_by n owner marks) (get_or owner n 0) 1) (held_by n owner marks)

-- place p owns none of the first n rows
unfoldable pub emptied : (n : ℕ) (owner : List ℕ) → ℕ → Bool
emptied n owner p = is_nil (pick (λ i. i) p n 0 owner)

-- the numbers of a buffer that holds r messages of b accounts, i of them internals; "a fill that ends with no account in the buffer clears"
-- the minimum
unfoldable pub left_counts : (r b i : ℕ) → List ℕ → List ℕ
left_counts r b i ns =
    let held = set (set (set (set ns 2 r) 3 b) 4 i) 5 (r - i) in
    cond (eqb b 0) (set (set held 6 0) 7 0) held

-- the columns with the first n owners as a fill left them
abbrev pub with_owners : ℕ → List ℕ → Cols → Cols
with_owners n left c = record {
  owner = laid_at 0 (take n left) c.owner;
  kind = c.kind;
  form = c.form;
  time = c.time;
  address = c.address;
  hash = c.hash;
  accounts = c.accounts;
  numbers = c.numbers;
}

unfoldable pub seats_left : (n a : ℕ) → List ℕ → List ℕ
seats_left n a left = seats_c (emptied n left) a (replicate 256 gone)

-- the columns packed, r messages and b accounts being left
unfoldable pub settled_c : (n a : ℕ) (seats : List ℕ) (r b : ℕ) → Cols → Cols
settled_c n a seats r b c =
    let made = compact_c n a seats c in
    with_numbers (left_counts r b (count_i (λ i k. not (eqb k 1)) r 0 made.kind) c.numbers) made

-- the index as it was
unfoldable pub filled_by : (n a : ℕ) → List ℕ → Cols → Cols
filled_by n a left c =
    let seats = seats_left n a left in
    let at = with_owners n left c in
    settled_c n a seats (rank (held (moved_c n seats at.owner)) n) (rank (λ p. not (emptied n left p)) a) at

-- how many accounts have a row left
abbrev pub holders : List ℕ → Cols → ℕ
holders left c = rank (λ p. not (emptied (number c 2) left p)) (number c 3)

abbrev pub filled_c : List ℕ → Cols → Cols
filled_c left c = indexed_c (holders left c) (filled_by (number c 2) (number c 3) left c)

-- ---- the group

-- the sums fit
pub record MayCount (n ints : ℕ) (ns : List ℕ) : Type 0 where
  pub long : length ns ≡ 16
  pub fewer : ints ≤ n
  pub few : n ≤ 1024
  pub messages : get_or ns 3 0 ≤ 1024
  pub internals : get_or ns 4 0 ≤ 1024
  pub externals : get_or ns 5 0 ≤ 1024

-- the numbers of a group with these slots and accounts and n messages more, i of them internals; k slots were to be opened
unfoldable pub in_counts : (slots accounts n i k last : ℕ) → List ℕ → List ℕ
in_counts slots accounts n i k last ns =
    let held =
    set (set (set (set (set ns 1 slots) 2 accounts) 3 (get_or ns 3 0 + n)) 4 (get_or ns 4 0 + i)) 5 (get_or ns 5 0 + (n - i)) in
    cond (eqb k 0) held (set (set held 6 last) 7 1)
