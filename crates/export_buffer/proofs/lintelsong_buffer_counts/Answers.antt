-- `lintelsong_buffer_counts` meets its contract: what the numbers say is what the buffer holds. Assumes nothing.
use mathlib.Core.Path.{refl, ap, ◌∙◌}
use Rattle.buffer_reads.proofs.Looks.{counts_seen}
use Rattle.buffer_cores.specs.Told.{listed}
use Rattle.export_buffer.specs.Held.{cols_of}
use Rattle.export_buffer.proofs.lintelsong_buffer_counts.Goals as goal

pub returns : goal.returns
returns c = (c.counts.ensures.0, c.counts.ensures.1 ∙ ap listed (counts_seen (cols_of c.args.b.now) c.requires), refl)
