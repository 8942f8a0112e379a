-- `over_height::overfull` meets its contract: no slot is listed below the height, or those listed are looked at. Assumes nothing.
use mathlib.Core.Path.{sym, ◌∙◌}
use Prim.Native.Nat.{ℕ}
use lib.ListN.{length-replicate}
use Rattle.over_height.proofs.Looks.{none_above, listed_front}
use Rattle.over_height.proofs.overfull.Goals as goal

pub returns-then-none_below : goal.returns-then-none_below
returns-then-none_below c = none_above _ _ _ _ _ _ (sym c.none_below.ensures ∙ c.if-none_below.true)

pub some_above-requires : goal.some_above-requires
some_above-requires c =
    (c.requires.0, c.list_below-count.ensures.few)

pub returns : goal.returns
returns c = rw (listed_front c.list_below-count.ensures (length-replicate {A = ℕ} 1024 0)) at c.some_above.ensures
