-- `words::name::name_of` meets its contract: the bytes of the number stand behind 24 zeros (proofs/Naming.antt). Assumes nothing.
use mathlib.Core.Path.{◌∙◌}
use Rattle.words.proofs.Naming.{named}
use Rattle.words.proofs.name.name_of.Goals as goal

pub returns : goal.returns
returns c = named c.args.n (c.copy_from_slice.ensures.after ∙ c.to_be_bytes.ensures)
