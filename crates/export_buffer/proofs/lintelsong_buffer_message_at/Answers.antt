-- `lintelsong_buffer_message_at` meets its contract: the message found in the columns is that of the queue. Assumes nothing.
use mathlib.Core.Path.{refl, subst}
use Rattle.buffer_seen.proofs.Looks.{message_seen}
use Rattle.export_parts.specs.Parts.{ToldMessage}
use Rattle.export_buffer.specs.Held.{cols_of}
use Rattle.export_buffer.proofs.lintelsong_buffer_message_at.Goals as goal

pub returns : goal.returns
returns c = (
  subst
      (ToldMessage c.message_at.result c.message_at.new.facts c.message_at.new.to c.message_at.new.hashed)
      (message_seen (cols_of c.args.b.now) c.requires c.args.place c.args.position)
      c.message_at.ensures,
  refl,
)
