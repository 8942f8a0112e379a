-- `lintelsong_buffer_account_messages_count` meets its contract: what the columns say is what the buffer holds. Assumes nothing.
use mathlib.Core.Path.{refl, ◌∙◌}
use Rattle.buffer_seen.proofs.Looks.{queued_seen}
use Rattle.export_buffer.specs.Held.{cols_of}
use Rattle.export_buffer.proofs.lintelsong_buffer_account_messages_count.Goals as goal

pub returns : goal.returns
returns c = (c.account_messages_count.ensures ∙ queued_seen (cols_of c.args.b.now) c.requires c.args.name.now, refl)
