-- `transfers::move_to` meets its contract: each of its three returns is one branch of the rule on columns; the counts fit as the slot grows by
-- no more than the room that it had. Assumes nothing.
use mathlib.Core.Path.{sym, ◌∙◌}
use Prim.Native.Nat.{◌<◌}
use native.Mathlib.Omega.{arith}
use Rattle.moves.proofs.Alone.{alone_held}
use Rattle.transfers.proofs.Branches.{grow_fits, alone_grown, move_none, move_stop, move_took}
use Rattle.transfers.proofs.move_to.Goals as goal

pub returns-then-fixed-party : goal.returns-then-fixed-party
returns-then-fixed-party c = move_none _ _ _ _ _ c.if-fixed-party.true

pub returns-then-most-eq0 : goal.returns-then-most-eq0
returns-then-most-eq0 c =
    let l : c.args.party < c.args.fixed.places = omega (arith, c.if-fixed-party.false) in
    move_stop _ c.args.fixed _ _ _ l _ _ (c.held-holds.ensures ∙ sym (alone_held _ _ _ c.requires.party_bound.1)) c.wanted-most.ensures c.if-most-eq0.true
    c.spend-begun.ensures

pub grow-grown-requires : goal.grow-grown-requires
grow-grown-requires c =
    let took = c.take_front-took.ensures in
    let holds = c.held-holds.ensures in
    let good = c.requires.good_store in
    let slot = c.requires.party_bound.1 in
    let small = rw (alone_held c.args.slot c.args.record.ints c.args.record.exts slot) at (good.small c.args.slot slot) in
    let fits = grow_fits _ _ _ _ _ c.wanted-most.ensures good.height_fit (omega (arith, holds, small)) took.atmost in
    (took.fewer, omega (arith, holds, fits))

pub enter-entered-requires : goal.enter-entered-requires
enter-entered-requires c =
    record { party_bound = c.requires.party_bound; home_bound = rw (c.spend-spent.ensures, c.spend-begun.ensures) c.requires.good_store.enters }

pub returns : goal.returns
returns c =
    let slot = c.requires.party_bound.1 in
    let grown = c.grow-grown.ensures in
    let l : c.args.party < c.args.fixed.places = omega (arith, c.if-fixed-party.false) in
    move_took _ c.args.fixed _ _ _ l _ _ (c.held-holds.ensures ∙ sym (alone_held _ _ _ slot))
    c.wanted-most.ensures
    c.if-most-eq0.false
    c.take_front-took.ensures
    c.spend-begun.ensures
    c.spend-spent.ensures
    _ _ (alone_grown _ _ _ _ slot grown.0) (alone_grown _ _ _ _ slot grown.1) _ _ _ c.enter-entered.ensures
