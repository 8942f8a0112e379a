-- `lintelsong_buffer_is_filled_by_slots` meets its contract: it never is. Assumes nothing.
use mathlib.Core.Path.{refl, ap, ◌∙◌}
use Rattle.buffer_reads.specs.declared.Filled.{Filled}
use Rattle.buffer_reads.proofs.Looks.{filled_seen}
use Rattle.export_parts.specs.Parts.{bit}
use Rattle.export_buffer.specs.Held.{cols_of}
use Rattle.export_buffer.proofs.lintelsong_buffer_is_filled_by_slots.Goals as goal

pub returns : goal.returns
returns c = (c.is_filled_by_slots.ensures ∙ ap (λ (f : Filled). bit f.slots) (filled_seen (cols_of c.args.b.now) c.requires 0), refl)
