-- The chains of a plan: where the queue of a party starts, and which row stands behind a row in its queue, so that a walk along a queue meets no
-- row of another. A plan is a column of three parts: the class of each of 1,024 rows, the next row of each, the first row of each of 256
-- places. A number that is no row says that there is none. Assumes nothing.
use Rattle.std.specs.Prelude.{◌≡◌, ◌⊎◌, cond, List, ℕ, ◌+◌, ◌<◌, ◌≤◌, ltb, get_or}

-- the first row of the queue of party p; a party past the places has no queue
unfoldable pub first_of : (plan : List ℕ) → (p : ℕ) → ℕ
first_of plan p = cond (ltb p 256) (get_or plan (2048 + p) 0) 1024

-- the row behind row i in its queue
abbrev pub next_of : (plan : List ℕ) → (i : ℕ) → ℕ
next_of plan i = get_or plan (1024 + i) 0

-- the plan chains the queues of n rows as they stood when it was made, row i in that of `whose i`; since then rows were marked, as taken or
-- dropped, and nothing else
pub record Linked (plan : List ℕ) (n : ℕ) (owner : List ℕ) : Type 0 where
  pub whose : ℕ → ℕ
  pub owns : (i : ℕ) → i < n → (get_or owner i 0 ≡ whose i) ⊎ (2048 ≤ get_or owner i 0)
  -- the first row of a party is its least
  pub first_least : (p i : ℕ) → i < n → whose i ≡ p → first_of plan p ≤ i
  pub first_own : (p : ℕ) → first_of plan p < n → whose (first_of plan p) ≡ p
  -- the next row of a row is the least above it of the same party
  pub next_above : (i : ℕ) → i < n → i < next_of plan i
  pub next_least : (i j : ℕ) → i < j → j < n → whose j ≡ whose i → next_of plan i ≤ j
  pub next_own : (i : ℕ) → i < n → next_of plan i < n → whose (next_of plan i) ≡ whose i
