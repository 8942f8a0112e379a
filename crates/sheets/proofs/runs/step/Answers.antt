-- `sheets::runs::step` meets its contract: what the fill answers is what is told. Assumes nothing.
use Rattle.sheet_rows.specs.Answer.{filled}
use Rattle.sheets.proofs.Filling.{filled_told}
use Rattle.sheets.proofs.runs.step.Goals as goal

pub returns : goal.returns
unfolding filled
returns c = filled_told c.args.number _ _ c.fill-f.ensures c.put-end.ensures
