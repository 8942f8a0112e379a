-- `buffer_walks::message_at` meets its contract: the row found holds the message at the position (crate buffer_seen, Looks). Assumes nothing.
use mathlib.Core.Path.{◌∙◌}
use Rattle.buffer_seen.proofs.Looks.{message_seen, messages_in}
use Rattle.buffers.specs.Buffers.{cols_of}
use Rattle.buffer_walks.proofs.message_at.Goals as goal

pub message_at-requires : goal.message_at-requires
message_at-requires c = let k = cols_of c.args.buffer in messages_in k c.requires

pub returns : goal.returns
returns c = c.message_at.ensures ∙ message_seen (cols_of c.args.buffer) c.requires c.args.place.0 c.args.position
