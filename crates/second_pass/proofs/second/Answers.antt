-- `second_pass::second` meets its contract: what the rest of the list makes of the columns now is what all of it makes of those at entry; the
-- roster is that of the members now. Assumes nothing.
use mathlib.Core.Path.{refl}
use native.Mathlib.Omega.{arith}
use Rattle.rosters.proofs.Rosters.{listed_none}
use Rattle.second_pass.proofs.Steps.{second_none, second_end, second_visits, second_past}
use Rattle.second_pass.proofs.second.Goals as goal
use Rattle.second_pass.proofs.second.Goals.{then-slot-entry, else-slot-entry}

pub returns-then-count-eq0 : goal.returns-then-count-eq0
returns-then-count-eq0 c = second_none _ _ _ _ _ _ c.if-count-eq0.true _ _

pub enlist-requires : goal.enlist-requires
enlist-requires c =
    let good = c.requires.ready.good in record { from_le_to = (omega arith, omega (arith, good.store.enters)); by_index = good.parties; by_index_2 = good.homes; listed = listed_none _ _ }

pub loop-id-init : goal.loop-id-init
loop-id-init c = record { ready = c.requires.ready; listed = c.enlist.ensures; same = refl }

pub position_of-slot-requires : goal.position_of-slot-requires
position_of-slot-requires c = c.requires.bound.0

pub visit_slot-w-requires : goal.visit_slot-w-requires
visit_slot-w-requires c =
    let v = c.loop-id.invariant in
    record { ready = v.ready; slot_bound = (omega (arith, c.if-slot-entry.true, c.requires.bound.0), v.listed) }

pub loop-id-preserved : goal.loop-id-preserved
loop-id-preserved c =
    let v = c.loop-id.invariant in
    let h = c.loop-id-test.true in
    let e = c.position_of-slot.ensures in
    let b = c.requires.bound in
    elim c.if-slot-entry.branch [
      | then-slot-entry w ↦ rw (w.owner-is, w.taken-is, w.home-is, w.member-is, w.mark-is, w.joined-is, w.roster-is, w.at-is, w.table-is, w.now-is)
          (second_visits v h e w.if-slot-entry.true b.0 w.visit_slot-w.ensures.tally_after w.visit_slot-w.ensures.listed)
      | else-slot-entry w ↦ rw (w.owner-is, w.taken-is, w.home-is, w.member-is, w.mark-is, w.joined-is, w.roster-is, w.at-is, w.table-is, w.now-is)
          (second_past v h e (λ q. omega (arith, w.if-slot-entry.false, q)))
    ]

pub returns : goal.returns
returns c = second_end c.loop-id.invariant c.loop-id-test.false
