-- `entry::house` meets its contract: what the rest of the loop makes of the column is what the whole makes of it (proofs/Tables.antt).
-- Assumes nothing.
use native.Mathlib.Omega.{arith}
use Rattle.entry.proofs.Tables.{house_start, house_step, house_end}
use Rattle.entry.proofs.house.Goals as goal

pub loop-g-init : goal.loop-g-init
loop-g-init c = house_start _ _ _ _

pub bounds-home-party : goal.bounds-home-party
bounds-home-party c =
    omega (arith, c.requires.by_index c.loop-g.g (omega arith), c.from-party.ensures)

pub loop-g-preserved : goal.loop-g-preserved
loop-g-preserved c = house_step c.loop-g.invariant (omega arith) _ c.from-party.ensures

pub returns : goal.returns
returns c = house_end c.loop-g.invariant (omega arith)
