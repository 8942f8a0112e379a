-- A reading laid out in tables. Assumes nothing.
use Rattle.std.specs.Prelude.{Result, Ok, Err, List, ℕ, length, replicate}
use Rattle.columns.specs.Laid.{laid_at}
use Rattle.columns.specs.Rows.{flat}
use Rattle.sections.specs.declared.Broken.{Broken}
use Rattle.text.specs.declared.sheet.Parsed.{Parsed}
use Rattle.sheet_rules.specs.Sheet.{Reading, sheet, line}

-- rows one behind the other in a table of so many cells, and zeros behind them
abbrev pub tabled : (cells : ℕ) → List (List ℕ) → List ℕ
tabled cells rows = laid_at 0 (flat rows) (replicate cells 0)

-- a sheet in its tables, or its broken line
abbrev pub laid_out : Reading → Result Parsed Broken
laid_out (sheet s) = Ok (record {
  skips = length s.skips;
  skip = tabled 192 s.skips;
  messages = length s.messages;
  message = tabled 1536 s.messages;
  fills = length s.fills;
  fill = tabled 256 s.fills;
})
laid_out (line n) = Err (record { line = n })
