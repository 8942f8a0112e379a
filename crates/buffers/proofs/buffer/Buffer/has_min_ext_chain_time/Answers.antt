-- `Buffer::has_min_ext_chain_time` meets its contract: the mark says whether there is a minimum (crate buffer_reads, Looks). Assumes nothing.
use mathlib.Core.Path.{◌∙◌}
use Rattle.buffer_reads.proofs.Looks.{least_seen}
use Rattle.buffers.specs.Buffers.{cols_of}
use Rattle.buffers.proofs.buffer.Buffer.has_min_ext_chain_time.Goals as goal

pub returns : goal.returns
returns c = c.has_min_ext_chain_time.ensures ∙ least_seen (cols_of c.args.self)
