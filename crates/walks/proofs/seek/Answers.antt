-- `walks::seek` meets its contract: what the rest of the walk makes of the columns now is what the whole walk makes of those at entry.
-- Assumes nothing.
use mathlib.Core.Path.{◌≡◌, refl, sym, ◌∙◌}
use native.Mathlib.Omega.{arith}
use Rattle.std.proofs.lemmas.Grind.{common_steps}
use Rattle.moves.proofs.Alone.{alone_held}
use Rattle.walks.proofs.Steps.{seek_end, seek_on, seek_stop}
use Rattle.walks.proofs.seek.Goals as goal

pub loop-at-init : goal.loop-at-init
loop-at-init c = record { upto = omega arith; going = record { ready = c.requires.ready; same = refl } }

pub meet-met-requires : goal.meet-met-requires
meet-met-requires c =
    let ready = c.loop-at.invariant.going.ready in
    record { ready = ready; party_bound = (omega (arith, c.loop-at-test.true, ready.good.store.places_fit), c.requires.slot_bound) }

pub returns-then-held-ne0 : goal.returns-then-held-ne0
returns-then-held-ne0 c =
    let slot = c.requires.slot_bound in
    seek_stop _ _ _ _ slot c.loop-at.invariant.going c.loop-at-test.true c.meet-met.ensures
    (c.held.ensures ∙ sym (alone_held _ _ _ slot)) c.if-held-ne0.true

pub loop-at-preserved : goal.loop-at-preserved
loop-at-preserved c =
    let slot = c.requires.slot_bound in
    record {
      upto = omega arith;
      going = seek_on _ _ _ _ slot c.loop-at.invariant.going c.loop-at-test.true c.meet-met.ensures
          (c.held.ensures ∙ sym (alone_held _ _ _ slot)) c.if-held-ne0.false;
    }

pub returns : goal.returns
returns c =
    let e : c.max.result ≡ c.loop-at.at = grind (arith, common_steps, c.max.ensures, c.loop-at.invariant.upto, c.loop-at-test.false, c.loop-at.auto.at) in
    rw e (seek_end _ _ _ _ c.requires.slot_bound c.loop-at.invariant.going (omega (arith, c.loop-at-test.false)))
