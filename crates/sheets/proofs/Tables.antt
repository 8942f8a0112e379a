-- A sheet that was read lies in its tables. Assumes nothing.
use mathlib.Core.Path.{◌≡◌, refl}
use mathlib.Core.List.{List}
use Prim.Native.Nat.{ℕ}
use Rattle.std.specs.Prelude.{IfOk}
use Rattle.sheet_rules.specs.Sheet.{Reading, sheet, line, read}
use Rattle.text.specs.Steps.{laid_out}
use Rattle.sheet_rules.proofs.Texts.{read_back}
use Rattle.sheets.specs.Steps.{Tabled}

by_reading : (text : List ℕ) (r : Reading) → read text ≡ r → IfOk (laid_out r) Tabled
by_reading text (sheet s) e =
    let f = (read_back text s e).1 in
    record { skips = f.skips.0; messages = f.messages.0; fills = f.fills.0 }
by_reading text (line n) e = tt

pub tables : (text : List ℕ) → IfOk (laid_out (read text)) Tabled
tables text = by_reading text (read text) refl
