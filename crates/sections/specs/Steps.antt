-- What reading a section leaves, said of the bytes from an index on. Assumes nothing.
use Rattle.std.specs.Prelude.{◌≡◌, Result, Ok, Err, IfOk, List, ℕ, ◌+◌, ◌≤◌, length, drop}
use Rattle.columns.specs.Laid.{laid_at}
use Rattle.columns.specs.Rows.{flat}
use Rattle.sections.specs.declared.Section.{Section}
use Rattle.sections.specs.declared.Broken.{Broken}
use Rattle.sheet_rules.specs.Sheet.{Read, took, broken, section_at}

-- what was read of a section with these rows
abbrev pub section_by : (text : List ℕ) (rows : List (List ℕ)) → Result Section Broken → Read (List (List ℕ))
section_by text rows (Ok s) = took rows (drop s.next text)
section_by text rows (Err b) = broken b.line

-- a section in order: its rows in the table, and what lies behind it
pub record HoldsRows (text : List ℕ) (at limit : ℕ) (rows : List (List ℕ)) (before after : List ℕ) (s : Section) : Type 0 where
  pub many : s.rows ≡ length rows
  pub behind : s.line ≡ at + 1 + length rows
  pub cells : after ≡ laid_at 0 (flat rows) before
  pub near : s.line ≤ at + 1 + limit
  pub within : s.next ≤ length text

-- a section: broken at a line, or its rows in the table
pub record ReadsSection (text : List ℕ) (from at limit : ℕ) (limits : List ℕ) (before after : List ℕ) (r : Result Section Broken) : Type 0 where
  pub rows : List (List ℕ)
  pub same : section_at at limit limits (drop from text) ≡ section_by text rows r
  pub held : IfOk r (HoldsRows text at limit rows before after)
