-- `fresh` meets its contract: every column is one repeat expression. Assumes nothing.
use mathlib.Core.Path.{refl}
use Rattle.slots.specs.Join.{fresh_t}
use Rattle.groups.proofs.group.fresh.Goals as goal

pub returns : goal.returns
unfolding fresh_t
returns c = refl
