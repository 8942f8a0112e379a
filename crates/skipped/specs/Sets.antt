-- The skipped set: what it holds, and when it is well formed. Assumes nothing.
use Rattle.std.specs.Prelude.{◌≡◌, List, ℕ, ◌*◌, ◌≤◌, length}
use Rattle.rules.specs.Made.{FitsSet}
use Rattle.columns.specs.Rows.{rows_of}
use Rattle.message.specs.Real.{Real}
use Rattle.queues.specs.Good.{Zeros}
use Rattle.skipped.specs.declared.Skipped.{Skipped}

-- the accounts in the order in which they joined
abbrev pub accounts_in : Skipped → List (List ℕ)
accounts_in s = rows_of s.held s.accounts

-- the column of a set that holds n accounts is well formed
pub record GoodRows (n : ℕ) (accounts : List ℕ) : Type 0 where
  pub long : length accounts ≡ 16384
  pub fits : FitsSet Real (rows_of n accounts)
  pub few : n ≤ 512
  -- the cells past the accounts held are fresh
  pub blank : Zeros accounts (32 * n) 16384

-- of the closed set (crate lintelsong) "a contract may rely on that alone"
abbrev pub GoodSet : Skipped → Type 0
GoodSet s = GoodRows s.held s.accounts
