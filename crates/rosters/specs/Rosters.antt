-- The roster of the slots: which member of the group is the first of a slot, and which stands behind a member in its slot, so that a walk along a
-- slot's own accounts meets no account of another. A roster is a column of three parts: the next member of each of 1,280, the first
-- member of each of 64 slots, the last of each. A number that is no member says that there is none. Assumes nothing.
use Rattle.std.specs.Prelude.{◌≡◌, cond, List, ℕ, ◌+◌, ◌<◌, ◌≤◌, ltb, length, get_or, set}

-- the member behind member g in its slot
abbrev pub next_in : (roster : List ℕ) → (g : ℕ) → ℕ
next_in roster g = get_or roster g 0

-- the first and the last member of the slot at j
abbrev pub first_in : (roster : List ℕ) → (j : ℕ) → ℕ
first_in roster j = get_or roster (1280 + j) 0

abbrev pub last_in : (roster : List ℕ) → (j : ℕ) → ℕ
last_in roster j = get_or roster (1344 + j) 0

-- the position of the slot of member g
abbrev pub home_in : (home member : List ℕ) → (g : ℕ) → ℕ
home_in home member g = get_or home (get_or member g 0) 0

-- the cell that names a newcomer of the slot at j: the next of its last member, or its first where it has none
unfoldable pub behind : (roster : List ℕ) → (j : ℕ) → ℕ
behind roster j = cond (ltb (last_in roster j) 1280) (last_in roster j) (1280 + j)

-- member g put behind the last of the slot at j
unfoldable pub appended : (roster : List ℕ) → (j g : ℕ) → List ℕ
appended roster j g = set (set roster (behind roster j) g) (1344 + j) g

-- the roster chains the first n members by their homes
pub record Listed (roster : List ℕ) (n : ℕ) (home member : List ℕ) : Type 0 where
  pub long : length roster ≡ 1408
  -- the first member of a slot is its least
  pub first_least : (j g : ℕ) → j < 64 → g < n → home_in home member g ≡ j → first_in roster j ≤ g
  pub first_own : (j : ℕ) → j < 64 → first_in roster j < 1280 → (first_in roster j < n) × (home_in home member (first_in roster j) ≡ j)
  -- the next of a member is the least above it of the same slot; one that is yet to come has none
  pub next_above : (g : ℕ) → g < n → g < next_in roster g
  pub next_least : (g h : ℕ) → g < h → h < n → home_in home member h ≡ home_in home member g → next_in roster g ≤ h
  pub next_own : (g : ℕ) → g < n → next_in roster g < 1280 → (next_in roster g < n) × (home_in home member (next_in roster g) ≡ home_in home member g)
  pub next_none : (g : ℕ) → n ≤ g → g < 1280 → 1280 ≤ next_in roster g
  -- the last member of a slot is its greatest
  pub last_greatest : (j g : ℕ) → j < 64 → g < n → home_in home member g ≡ j → (g ≤ last_in roster j) × (last_in roster j < n)
  pub last_own : (j : ℕ) → j < 64 → last_in roster j < 1280 → (last_in roster j < n) × (home_in home member (last_in roster j) ≡ j)
