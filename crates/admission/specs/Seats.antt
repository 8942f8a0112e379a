-- What giving an account its seat leaves: the seat lies in the account table, and a name behind the last is entered in the index.
-- Assumes nothing.
use Rattle.std.specs.Prelude.{◌≡◌, cond, List, ℕ, leb, drop}
use Rattle.index.specs.Names.{enter_c, with_index}
use Rattle.queues.specs.Append.{seated_c}

-- the name entered where the seat is behind the last
abbrev pub entered_c : (seat places : ℕ) → List ℕ → List ℕ → List ℕ
entered_c seat places x numbers = cond (leb places seat) (with_index (enter_c x seat (drop 16 numbers)) numbers) numbers

pub record SeatedIn (seat places : ℕ) (x accounts₀ numbers₀ accounts' numbers' : List ℕ) : Type 0 where
  pub accounts : accounts' ≡ seated_c seat places x accounts₀
  pub numbers : numbers' ≡ entered_c seat places x numbers₀
