-- `buckets::fresh` meets its contract: cells that all hold the mark are seventeen empty buckets (proofs/Below.antt). Assumes nothing.
use mathlib.Core.Path.{refl}
use Rattle.buckets.proofs.Below.{fresh_leaves}
use Rattle.buckets.proofs.fresh.Goals as goal

pub returns : goal.returns
returns c = fresh_leaves 1088 refl
