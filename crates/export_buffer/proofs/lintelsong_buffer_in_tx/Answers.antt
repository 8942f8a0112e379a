-- `lintelsong_buffer_in_tx` meets its contract: the mark says whether a transaction is open. Assumes nothing.
use mathlib.Core.Path.{refl, ap, ◌∙◌}
use Rattle.buffer_reads.proofs.Looks.{open_seen}
use Rattle.export_parts.specs.Parts.{bit}
use Rattle.export_buffer.specs.Held.{cols_of}
use Rattle.export_buffer.proofs.lintelsong_buffer_in_tx.Goals as goal

pub returns : goal.returns
returns c = (c.in_tx.ensures ∙ ap bit (open_seen (cols_of c.args.b.now)), refl)
