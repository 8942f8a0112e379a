-- Cells and rows copied by a column of row numbers: what a copy needs, what it lays over the column that it writes. Assumes nothing.
use Rattle.std.specs.Prelude.{◌≡◌, Bool, cond, not, List, ℕ, zero, suc, ◌+◌, ◌-◌, ◌*◌, ◌≤◌, ◌<◌, eqb, ltb, length, get_or, set}
use Rattle.columns.specs.Lists.{tab_i, gather, rank}
use Rattle.columns.specs.Laid.{laid_at}
use Rattle.columns.specs.Rows.{row_at, flat}

-- ---- cells and rows

-- the cells of n rows, which `rows` names from `first` on
abbrev pub cells_at : (n first : ℕ) (rows from : List ℕ) → List ℕ
cells_at n first rows from = tab_i n first (λ k. get_or from (get_or rows k 0) 0)

abbrev pub rows_at : (n first : ℕ) (rows from : List ℕ) → List (List ℕ)
rows_at n first rows from = tab_i n first (λ k. row_at from (get_or rows k 0))

-- n rows are named from `first` on, each in a column of this size, and have room from `at` on
pub record Takes (first n size : ℕ) (rows : List ℕ) (at room : ℕ) : Type 0 where
  pub named : first + n ≤ length rows
  pub there : (k : ℕ) → k < n → get_or rows (first + k) 0 < size
  pub fits : at + n ≤ room

-- the same of rows of 32 bytes
pub record TakesRows (first n size : ℕ) (rows : List ℕ) (at room : ℕ) : Type 0 where
  pub named : first + n ≤ length rows
  pub there : (k : ℕ) → k < n → 32 * get_or rows (first + k) 0 + 32 ≤ size
  pub fits : 32 * (at + n) ≤ room

-- ---- the rows taken

-- the first n members have their seat: which of them each is
unfoldable pub seated_by : (n : ℕ) (member seat : List ℕ) → List ℕ
seated_by zero member seat = seat
seated_by (suc n) member seat = set (seated_by n member seat) (get_or member n 0) n

-- the seats of the parties that n rows were taken from, by the owners 2048 + party that they have
abbrev pub seats_at : (n : ℕ) (rows owner seat : List ℕ) → List ℕ
seats_at n rows owner seat = tab_i n 0 (λ k. get_or seat (get_or owner (get_or rows k 0) 0 - 2048) 0)

pub record TakesOwners (n : ℕ) (owner rows : List ℕ) (at seats room : ℕ) : Type 0 where
  pub few : n ≤ 1024
  pub rows_long : length rows ≡ 1024
  pub owners_long : length owner ≡ 1024
  pub seats_long : seats ≡ 1280
  pub there : (k : ℕ) → k < n → get_or rows k 0 < 1024
  pub from : (k : ℕ) → k < n → 2048 ≤ get_or owner (get_or rows k 0) 0
  pub party : (k : ℕ) → k < n → get_or owner (get_or rows k 0) 0 < 3328
  pub room_long : room ≡ 1024
  pub fits : at + n ≤ 1024

pub record Fields (n : ℕ) (rows : List ℕ) (at : ℕ) (kind form time kind₀ form₀ time₀ kind' form' time' : List ℕ) : Type 0 where
  pub kinds : kind' ≡ laid_at at (cells_at n 0 rows kind) kind₀
  pub forms : form' ≡ laid_at at (cells_at n 0 rows form) form₀
  pub times : time' ≡ laid_at at (cells_at n 0 rows time) time₀

pub record Bodies (n : ℕ) (rows : List ℕ) (at : ℕ) (address hash address₀ hash₀ address' hash' : List ℕ) : Type 0 where
  pub addresses : address' ≡ laid_at (32 * at) (flat (rows_at n 0 rows address)) address₀
  pub hashes : hash' ≡ laid_at (32 * at) (flat (rows_at n 0 rows hash)) hash₀

-- n members from `first` on entered the group
pub record Entered (first n : ℕ) (member accounts home accounts₀ home₀ accounts' home' : List ℕ) : Type 0 where
  pub accounts_are : accounts' ≡ laid_at (32 * first) (flat (rows_at n first member accounts)) accounts₀
  pub homes_are : home' ≡ laid_at first (cells_at n first member home) home₀

-- ---- the key list and the skipped set

-- the k-th row taken is an internal
abbrev pub is_key : (rows kind : List ℕ) → ℕ → Bool
is_key rows kind k = not (eqb (get_or kind (get_or rows k 0) 0) 1)

pub record TakesKeys (n : ℕ) (rows kind : List ℕ) (times hash lts hashes : ℕ) : Type 0 where
  pub few : n ≤ 1024
  pub rows_long : length rows ≡ 1024
  pub kinds_long : length kind ≡ 2048
  pub times_long : times ≡ 2048
  pub hash_long : hash ≡ 65536
  pub there : (k : ℕ) → k < n → get_or rows k 0 < 1024
  pub fits : rank (is_key rows kind) n ≤ lts
  pub hashes_fit : 32 * rank (is_key rows kind) n ≤ hashes

-- "put (created_lt, hash) on the key list in order of collection; rows past them stay"
pub record Keyed (n : ℕ) (rows kind time hash lts₀ hashes₀ lts' hashes' : List ℕ) (r : ℕ) : Type 0 where
  pub count : r ≡ rank (is_key rows kind) n
  pub lts_are : lts' ≡ laid_at 0 (gather (is_key rows kind) (λ k. get_or time (get_or rows k 0) 0) n 0) lts₀
  pub hashes_are : hashes' ≡ laid_at 0 (flat (gather (is_key rows kind) (λ k. row_at hash (get_or rows k 0)) n 0)) hashes₀

-- the account of a party: at its place in the order, or in the group
unfoldable pub party_row : (accounts others : List ℕ) → ℕ → List ℕ
party_row accounts others p = cond (ltb p 256) (row_at accounts p) (row_at others (p - 256))

abbrev pub accounts_at : (n : ℕ) (joined accounts others : List ℕ) → List (List ℕ)
accounts_at n joined accounts others = tab_i n 0 (λ k. party_row accounts others (get_or joined k 0))

pub record TakesParties (n : ℕ) (joined : List ℕ) (at : ℕ) : Type 0 where
  pub joined_long : length joined ≡ 1280
  pub named : n ≤ 1280
  pub there : (k : ℕ) → k < n → get_or joined k 0 < 1280
  pub fits : at + n ≤ 512
