-- `lintelsong_buffer_is_filled_by_count` meets its contract: what the numbers say is what the buffer holds. Assumes nothing.
use mathlib.Core.Path.{refl, ap, ◌∙◌}
use Rattle.buffer_reads.specs.declared.Filled.{Filled}
use Rattle.buffer_reads.proofs.Looks.{filled_seen}
use Rattle.export_parts.specs.Parts.{bit}
use Rattle.export_buffer.specs.Held.{cols_of}
use Rattle.export_buffer.proofs.lintelsong_buffer_is_filled_by_count.Goals as goal

pub returns : goal.returns
returns c = (c.is_filled_by_count.ensures ∙ ap (λ (f : Filled). bit f.count) (filled_seen (cols_of c.args.b.now) c.requires c.args.limit), refl)
