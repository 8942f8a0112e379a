-- `visits::visit` meets its contract: the slot's own accounts, then the branch that its room decides. Assumes nothing.
use mathlib.Core.Path.{sym}
use Rattle.moves.proofs.Alone.{alone_held}
use Rattle.visits.proofs.Steps.{owned_ready, visit_full, visit_reach}
use Rattle.visits.proofs.visit.Goals as goal

pub own-tried-requires : goal.own-tried-requires
own-tried-requires c = record { ready = c.requires.ready; slot_bound = c.requires.slot_bound }

pub returns-then-full : goal.returns-then-full
returns-then-full c =
    visit_full _ _ _ _ _ _ c.own-tried.ensures (sym (alone_held _ _ _ c.requires.slot_bound.0)) c.full.ensures c.if-full.true

pub reach-requires : goal.reach-requires
reach-requires c =
    let ready = owned_ready c.args.plan.now c.args.cost.now c.args.fixed c.args.slot c.args.from _ c.own-tried.ensures
    c.requires.slot_bound.0 c.requires.ready in
    record { ready = ready; slot_bound = c.requires.slot_bound.0 }

pub returns : goal.returns
returns c =
    visit_reach _ _ _ _ _ _ c.own-tried.ensures (sym (alone_held _ _ _ c.requires.slot_bound.0)) c.full.ensures c.if-full.false c.reach.ensures
