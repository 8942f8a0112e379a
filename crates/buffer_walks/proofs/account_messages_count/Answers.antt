-- `buffer_walks::account_messages_count` meets its contract: what the account's seat owns is its queue (crate buffer_seen, Looks). Assumes nothing.
use mathlib.Core.Path.{◌∙◌}
use Rattle.buffer_seen.proofs.Looks.{queued_seen, accounts_in_lem, owners_in}
use Rattle.buffers.specs.Buffers.{cols_of}
use Rattle.buffer_walks.proofs.account_messages_count.Goals as goal

pub account_messages_count-requires : goal.account_messages_count-requires
account_messages_count-requires c = let k = cols_of c.args.buffer in (accounts_in_lem k c.requires, owners_in k c.requires)

pub returns : goal.returns
returns c = c.account_messages_count.ensures ∙ queued_seen (cols_of c.args.buffer) c.requires c.args.name
