-- `Skipped::len` meets its contract: the rows held are as many as their number says. Assumes nothing.
use mathlib.Core.Path.{sym}
use Rattle.columns.proofs.Rows.{length_rows}
use Rattle.skipped.proofs.Skipped.len.Goals as goal

pub returns : goal.returns
returns c = sym (length_rows c.args.self.held c.args.self.accounts)
