-- A sheet that was read lies in its tables. Assumes nothing.
use Rattle.std.specs.Prelude.{◌≤◌}
use Rattle.text.specs.declared.sheet.Parsed.{Parsed}

-- the rows that are counted have room in the tables of a sheet, which are as long as their types say
pub record Tabled (p : Parsed) : Type 0 where
  pub skips : p.skips ≤ 64
  pub messages : p.messages ≤ 512
  pub fills : p.fills ≤ 64
