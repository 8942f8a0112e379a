-- `Buffer::counts` meets its contract: the numbers kept are the counts of what is held (crate buffer_reads, Looks). Assumes nothing.
use mathlib.Core.Path.{◌∙◌}
use Rattle.buffer_reads.proofs.Looks.{counts_seen}
use Rattle.buffers.specs.Buffers.{cols_of}
use Rattle.buffers.proofs.buffer.Buffer.counts.Goals as goal

pub returns : goal.returns
returns c = c.counts.ensures ∙ counts_seen (cols_of c.args.self) c.requires
