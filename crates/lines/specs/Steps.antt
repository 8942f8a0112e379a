-- What reading lines leaves, said of the bytes from an index on. Assumes nothing.
use Rattle.std.specs.Prelude.{◌≡◌, Option, Some, None, OnSome, IfSome, Result, Ok, Err, OnOk, IfOk, IfErr, List, ℕ, ◌+◌, ◌≤◌, ◌<◌, length, drop}
use Rattle.columns.specs.Laid.{laid_at}
use Rattle.columns.specs.Rows.{flat}
use Rattle.sheet_rules.specs.Sheet.{Read, took, broken, line_at, lines_at}

-- what was read of a line `at`, whose numbers are the row
abbrev pub line_by : (text row : List ℕ) (at : ℕ) → Option ℕ → Read (List ℕ)
line_by text row at (Some next) = took row (drop next text)
line_by text row at None = broken at

-- a line: its numbers stand in the table from `cell` on; of a broken line those before the break
pub record ReadsLine (text : List ℕ) (from : ℕ) (limits : List ℕ) (cell : ℕ) (before after : List ℕ) (r : Option ℕ) : Type 0 where
  pub row : List ℕ
  pub same : (at : ℕ) → line_at at limits (drop from text) ≡ line_by text row at r
  pub wide : OnSome r (length row ≡ length limits)
  pub cells : after ≡ laid_at cell row before
  pub within : IfSome r (λ next. next ≤ length text)

-- what was read of lines from line `at` on: the line behind those in order is the broken one
abbrev pub lines_by : (text : List ℕ) (rows : List (List ℕ)) (at : ℕ) → Result ℕ ℕ → Read (List (List ℕ))
lines_by text rows at (Ok next) = took rows (drop next text)
lines_by text rows at (Err done) = broken (at + done)

-- n lines, one behind the other: the rows stand in the table one behind the other
pub record ReadsLines (text : List ℕ) (from : ℕ) (limits : List ℕ) (n : ℕ) (before after : List ℕ) (r : Result ℕ ℕ) : Type 0 where
  pub rows : List (List ℕ)
  pub same : (at : ℕ) → lines_at at limits n (drop from text) ≡ lines_by text rows at r
  pub cells : OnOk r (after ≡ laid_at 0 (flat rows) before)
  pub few : IfErr r (λ done. done < n)
  pub within : IfOk r (λ next. next ≤ length text)
