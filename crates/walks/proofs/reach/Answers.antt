-- `walks::reach` meets its contract: what the rest of the walk makes of the columns now is what the whole walk makes of those at entry.
-- Assumes nothing.
use mathlib.Core.Path.{◌≡◌, refl, sym}
use native.Mathlib.Omega.{arith}
use Rattle.std.proofs.lemmas.Grind.{common_steps}
use Rattle.moves.proofs.Alone.{alone_held}
use Rattle.walks.proofs.Steps.{reach_end, reach_on, reach_stop}
use Rattle.walks.proofs.reach.Goals as goal

pub loop-at-init : goal.loop-at-init
loop-at-init c = record { upto = omega arith; going = record { ready = c.requires.ready; same = refl } }

pub moving-moved-requires : goal.moving-moved-requires
moving-moved-requires c =
    let ready = c.loop-at.invariant.going.ready in
    omega (arith, c.loop-at-test.true, ready.good.store.places_fit)

pub meet-met-requires : goal.meet-met-requires
meet-met-requires c =
    let ready = c.loop-at.invariant.going.ready in
    record { ready = ready; party_bound = (omega (arith, c.loop-at-test.true, ready.good.store.places_fit), c.requires.slot_bound) }

pub returns-then-stops : goal.returns-then-stops
returns-then-stops c =
    let slot = c.requires.slot_bound in
    reach_stop _ _ _ _ slot c.loop-at.invariant.going c.loop-at-test.true c.meet-met.ensures
    c.moving-moved.ensures (sym (alone_held _ _ _ slot)) c.stops.ensures c.if-stops.true

pub loop-at-preserved : goal.loop-at-preserved
loop-at-preserved c =
    let slot = c.requires.slot_bound in
    record {
      upto = omega arith;
      going = reach_on _ _ _ _ slot c.loop-at.invariant.going c.loop-at-test.true c.meet-met.ensures
          c.moving-moved.ensures (sym (alone_held _ _ _ slot)) c.stops.ensures c.if-stops.false;
    }

pub returns : goal.returns
returns c =
    let e : c.max.result ≡ c.loop-at.at = grind (arith, common_steps, c.max.ensures, c.loop-at.invariant.upto, c.loop-at-test.false, c.loop-at.auto.at) in
    rw e (reach_end _ _ _ _ c.requires.slot_bound c.loop-at.invariant.going (omega (arith, c.loop-at-test.false)))
