-- `visits::own` meets its contract: what the members from the next one of the slot on make of the columns now is what all members make of
-- those at entry. Assumes nothing.
use mathlib.Core.Path.{sym}
use native.Mathlib.Omega.{arith}
use Rattle.moves.proofs.Alone.{alone_held}
use Rattle.visits.proofs.Steps.{own_start, own_end, own_party, own_above, own_stop, own_on}
use Rattle.visits.proofs.own.Goals as goal

pub loop-next-init : goal.loop-next-init
loop-next-init c = own_start _ _ _ _ c.requires.slot_bound.0 c.requires.ready c.requires.slot_bound.1 c.first_in-next.ensures

pub bounds-member-next : goal.bounds-member-next
bounds-member-next c =
    let v = c.loop-next.invariant in omega (arith, c.loop-next-test.true, v.more, v.ready.good.store.enters)

pub bounds-mark-party : goal.bounds-mark-party
bounds-mark-party c =
    let small = own_party _ _ _ _ c.requires.slot_bound.0 c.loop-next.invariant c.loop-next-test.true in
    omega (arith, c.from-party.ensures, small)

pub attempt-tried-requires : goal.attempt-tried-requires
attempt-tried-requires c =
    let slot = c.requires.slot_bound.0 in
    let small = own_party _ _ _ _ slot c.loop-next.invariant c.loop-next-test.true in
    record { ready = c.loop-next.invariant.ready; party_bound = (omega (arith, c.from-party.ensures, small), slot) }

pub returns-then-stops : goal.returns-then-stops
returns-then-stops c =
    let slot = c.requires.slot_bound.0 in
    own_stop _ _ _ _ slot c.loop-next.invariant c.loop-next-test.true c.from-party.ensures c.attempt-tried.ensures
    c.skips-moved.ensures (sym (alone_held _ _ _ slot)) c.stops.ensures c.if-stops.true

pub next_in-next-requires : goal.next_in-next-requires
next_in-next-requires c =
    let v = c.loop-next.invariant in
    omega (arith, c.loop-next-test.true, v.more, v.ready.good.store.enters)

pub loop-next-smaller : goal.loop-next-smaller
loop-next-smaller c =
    let here = c.loop-next-test.true in
    omega (arith, here, own_above _ _ _ _ c.requires.slot_bound.0 c.loop-next.invariant here c.next_in-next.ensures)

pub loop-next-preserved : goal.loop-next-preserved
loop-next-preserved c =
    let slot = c.requires.slot_bound.0 in
    own_on _ _ _ _ slot c.loop-next.invariant c.loop-next-test.true c.from-party.ensures c.attempt-tried.ensures
    c.skips-moved.ensures (sym (alone_held _ _ _ slot)) c.stops.ensures c.if-stops.false c.next_in-next.ensures

pub returns : goal.returns
returns c = own_end _ _ _ _ c.requires.slot_bound.0 c.loop-next.invariant (omega (arith, c.loop-next-test.false))
