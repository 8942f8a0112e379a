-- The skipped set behind a reference: what it holds, and when it is well formed. Assumes nothing.
use Rattle.std.specs.Prelude.{List, ℕ}
use Rattle.columns.specs.Rows.{rows_of}
use Rattle.skipped.specs.Sets.{GoodRows}
use Rattle.export_skipped.specs.declared.Skipped.{Skipped}

-- the accounts in the order in which they joined
abbrev pub accounts_in : Skipped → List (List ℕ)
accounts_in s = rows_of s.held s.accounts

-- well formed, which every call leaves: "a contract may rely on that alone"
abbrev pub GoodSet : Skipped → Type 0
GoodSet s = GoodRows s.held s.accounts
