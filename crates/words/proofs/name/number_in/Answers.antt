-- `words::name::number_in` meets its contract: the last eight bytes are summed up (proofs/Naming.antt). Assumes nothing.
use Rattle.std.proofs.Common.{rules}
use Rattle.words.proofs.Naming.{summed}
use Rattle.words.proofs.name.number_in.Goals as goal

pub returns : goal.returns
returns c = summed c.args.name (search rules) c.from_be_bytes.ensures
