-- `keeping::give_back` meets its contract: the numbers are copied back, the mark goes, and the index is made of the accounts given back. Assumes nothing.
use mathlib.Core.Path.{◌∙◌}
use Rattle.keeping.proofs.give_back.Goals as goal

pub returns : goal.returns
returns c = c.rebuild.ensures ∙ rw (c.forget.ensures, c.copy.ensures)
