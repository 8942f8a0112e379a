-- `Buffer::in_tx` meets its contract: the mark says whether a transaction is open (crate buffer_reads, Looks). Assumes nothing.
use mathlib.Core.Path.{◌∙◌}
use Rattle.buffer_reads.proofs.Looks.{open_seen}
use Rattle.buffers.specs.Buffers.{cols_of}
use Rattle.buffers.proofs.buffer.Buffer.in_tx.Goals as goal

pub returns : goal.returns
returns c = c.in_tx.ensures ∙ open_seen (cols_of c.args.self)
