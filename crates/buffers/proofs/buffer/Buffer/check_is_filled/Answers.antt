-- `Buffer::check_is_filled` meets its contract: the messages held are counted (crate buffer_reads, Looks). Assumes nothing.
use mathlib.Core.Path.{◌∙◌}
use Rattle.buffer_reads.proofs.Looks.{filled_seen}
use Rattle.buffers.specs.Buffers.{cols_of}
use Rattle.buffers.proofs.buffer.Buffer.check_is_filled.Goals as goal

pub returns : goal.returns
returns c = c.check_is_filled.ensures ∙ filled_seen (cols_of c.args.self) c.requires c.args.limit
