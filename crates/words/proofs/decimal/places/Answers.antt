-- `words::decimal::places` meets its contract: what was counted and what is still to be counted make up the whole (proofs/Placing.antt).
-- Assumes nothing.
use native.Mathlib.Omega.{arith}
use Rattle.words.proofs.Placing.{place_start, place_step, place_end}
use Rattle.words.proofs.decimal.places.Goals as goal

pub loop-rest-init : goal.loop-rest-init
loop-rest-init c = place_start _ c.ranges.n.fits

pub overflow_add-k : goal.overflow_add-k
overflow_add-k c = omega arith

pub loop-rest-smaller : goal.loop-rest-smaller
loop-rest-smaller c = omega arith

pub loop-rest-preserved : goal.loop-rest-preserved
loop-rest-preserved c = place_step _ c.loop-rest.invariant c.loop-rest-test.true

pub returns : goal.returns
returns c = place_end _ c.loop-rest.invariant c.loop-rest-test.false
