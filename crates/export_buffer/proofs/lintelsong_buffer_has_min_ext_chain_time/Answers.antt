-- `lintelsong_buffer_has_min_ext_chain_time` meets its contract: the mark says whether there is a least chain time. Assumes nothing.
use mathlib.Core.Path.{refl, ap, ◌∙◌}
use Rattle.buffer_reads.proofs.Looks.{least_seen}
use Rattle.export_parts.specs.Parts.{bit}
use Rattle.export_buffer.specs.Held.{cols_of}
use Rattle.export_buffer.proofs.lintelsong_buffer_has_min_ext_chain_time.Goals as goal

pub returns : goal.returns
returns c = (c.has_min_ext_chain_time.ensures ∙ ap bit (least_seen (cols_of c.args.b.now)), refl)
