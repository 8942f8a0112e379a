-- `buffer_walks::account_at` meets its contract: a place below the accounts held has an account, any other has none (crate buffer_seen, Looks). Assumes nothing.
use mathlib.Core.Path.{◌∙◌}
use Rattle.buffer_seen.proofs.Looks.{account_seen, accounts_in_lem}
use Rattle.buffers.specs.Buffers.{cols_of}
use Rattle.buffer_walks.proofs.account_at.Goals as goal

pub account_at-requires : goal.account_at-requires
account_at-requires c = let k = cols_of c.args.buffer in accounts_in_lem k c.requires

pub returns : goal.returns
returns c = c.account_at.ensures ∙ account_seen (cols_of c.args.buffer) c.args.place.0
