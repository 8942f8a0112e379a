-- `planning::link` meets its contract: what the rows that are left make of the plan is what all of them make of it (proofs/Linking.antt).
-- Assumes nothing.
use mathlib.Core.Path.{refl}
use Prim.Native.Nat.{◌-◌}
use native.Mathlib.Omega.{arith}
use Rattle.planning.proofs.Linking.{link_start, link_step, link_end}
use Rattle.planning.proofs.link.Goals as goal

pub loop-i-init : goal.loop-i-init
loop-i-init c = link_start _ _ _

pub bounds-plan-place : goal.bounds-plan-place
bounds-plan-place c = omega (arith, c.requires.by_index (c.loop-i.i - 1) (omega arith))

pub bounds-plan-place-in-loop-i : goal.bounds-plan-place-in-loop-i
bounds-plan-place-in-loop-i c = omega (arith, c.requires.by_index (c.loop-i.i - 1) (omega arith))

pub loop-i-preserved : goal.loop-i-preserved
loop-i-preserved c = link_step c.loop-i.invariant c.loop-i-test.true refl c.from-place.ensures

pub returns : goal.returns
returns c = link_end c.loop-i.invariant (omega arith)
