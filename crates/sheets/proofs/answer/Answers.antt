-- `sheets::answer` meets its contract: a broken sheet is answered by its line, any other is played. Assumes nothing.
use mathlib.Core.Path.{subst⁻¹}
use Rattle.std.specs.Prelude.{IfOk}
use Rattle.sheets.specs.Steps.{Tabled}
use Rattle.sheets.proofs.Playing.{broken_told, sheet_told}
use Rattle.sheets.proofs.Tables.{tables}
use Rattle.sheets.proofs.answer.Goals as goal

pub play-requires : goal.play-requires
play-requires c = (subst⁻¹ (λ r. IfOk r Tabled) c.in-Ok.ensures (tables _), c.requires)

pub returns-in-Ok : goal.returns-in-Ok
returns-in-Ok c = sheet_told _ c.in-Ok.ensures c.play.ensures

pub returns-in-Err : goal.returns-in-Err
returns-in-Err c = broken_told _ c.in-Err.ensures c.put_broken.ensures
