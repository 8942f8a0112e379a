-- `lintelsong_skipped_len` meets its contract: there are as many rows as the set says that it holds. Assumes nothing.
use mathlib.Core.Path.{refl, sym, ◌∙◌}
use Rattle.columns.proofs.Rows.{length_rows}
use Rattle.export_skipped.proofs.lintelsong_skipped_len.Goals as goal

pub returns : goal.returns
returns c = (c.len.ensures ∙ sym (length_rows c.args.s.now.held c.args.s.now.accounts), refl)
