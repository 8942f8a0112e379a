-- A section from its count and its lines: what the steps read is what the definition reads. Assumes nothing.
use mathlib.Core.Path.{◌≡◌, sym}
use mathlib.Core.List.{List, []}
use Prim.Native.Nat.{ℕ, ◌+◌, ◌≤◌}
use native.Mathlib.Omega.{arith}
use lib.ListN.{drop}
use Rattle.std.proofs.Common.{Some, None, Ok, Err}
use Rattle.numerals.specs.declared.Numeral.{Numeral}
use Rattle.numerals.specs.Steps.{ReadsNumber}
use Rattle.lines.specs.Steps.{ReadsLines}
use Rattle.sheet_rules.specs.Sheet.{took, lines_at, section_at}
use Rattle.sheet_rules.proofs.Numerals.{number_back}
use Rattle.sheet_rules.proofs.Texts.{lines_back}
use Rattle.sections.specs.Steps.{ReadsSection}

module _ (text : List ℕ) (from at limit : ℕ) (limits before : List ℕ) where
  -- the count is broken
  pub no_count : ReadsNumber text from 10 limit None → ReadsSection text from at limit limits before before (Err (record { line = at }))
  unfolding section_at
  no_count w = record { rows = []; same = rw (w.same at); held = tt }

  module _ (n : Numeral) (w : ReadsNumber text from 10 limit (Some n)) where
    pub few_rows : n.value ≤ limit
    few_rows = (number_back at 10 limit (drop from text) n.value (drop n.next text) (w.same at)).1

    module _ {table : List ℕ} where
      -- a row is broken
      pub no_row : (done : ℕ) → ReadsLines text n.next limits n.value before table (Err done)
          → ReadsSection text from at limit limits before table (Err (record { line = at + 1 + done }))
      unfolding section_at
      no_row done v = record { rows = []; same = rw (w.same at, v.same (at + 1)); held = tt }

      pub all_rows : (next : ℕ) → ReadsLines text n.next limits n.value before table (Ok next)
          → ReadsSection text from at limit limits before table (Ok (record { rows = n.value; line = at + 1 + n.value; next = next }))
      unfolding section_at
      all_rows next v =
          let got : lines_at (at + 1) limits n.value (drop n.next text) ≡ took v.rows (drop next text) = v.same (at + 1) in
          let many = (lines_back n.value (at + 1) limits (drop n.next text) v.rows (drop next text) got).many in
          record {
            rows = v.rows;
            same = rw (w.same at, got);
            held = record {
              many = sym many;
              behind = omega (arith, many);
              cells = v.cells;
              near = omega (arith, few_rows);
              within = v.within;
            };
          }
