-- `keeping::keep` meets its contract: the six numbers are copied, and the mark is set. Assumes nothing.
use mathlib.Core.Path.{ap}
use mathlib.Core.List.{List}
use Prim.Native.Nat.{ℕ}
use lib.ListN.{set}
use Rattle.keeping.proofs.keep.Goals as goal

pub returns : goal.returns
returns c = ap (λ (l : List ℕ). set l 8 1) c.copy.ensures
