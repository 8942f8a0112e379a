-- `lintelsong_buffer_account_at` meets its contract: the account found in the columns is that of the order. Assumes nothing.
use mathlib.Core.Path.{refl, subst}
use Rattle.buffer_seen.proofs.Looks.{account_seen}
use Rattle.export_parts.specs.Parts.{Told}
use Rattle.export_buffer.specs.Held.{cols_of}
use Rattle.export_buffer.proofs.lintelsong_buffer_account_at.Goals as goal

pub returns : goal.returns
returns c = (
  subst (Told c.account_at.result c.account_at.new.out) (account_seen (cols_of c.args.b.now) c.args.place) c.account_at.ensures,
  refl,
)
