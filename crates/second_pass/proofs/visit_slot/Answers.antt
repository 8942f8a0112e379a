-- `second_pass::visit_slot` meets its contract: what the visit makes of the slot's record, written back, is what the rule makes of the table; those
-- who stood in the group stand there still, so that the roster of them with the newcomers behind it is the roster of all. Assumes nothing.
use native.Mathlib.Omega.{arith}
use Rattle.serving.proofs.Records.{ready_record, visit_record}
use Rattle.second_pass.proofs.Steps.{visited_ready, visited_more, visited_listed}
use Rattle.second_pass.proofs.visit_slot.Goals as goal

pub visit-w-requires : goal.visit-w-requires
visit-w-requires c = record { ready = ready_record c.args.table.now c.requires.ready c.requires.slot_bound.0; slot_bound = c.requires.slot_bound }

pub enlist-requires : goal.enlist-requires
enlist-requires c =
    let l = c.requires.slot_bound.0 in
    let one = ready_record c.args.table.now c.requires.ready l in
    let e = c.visit-w.ensures in
    let ready = visited_ready l one c.args.from e in
    let more = visited_more l one c.args.from e in record { from_le_to = (omega (arith, more), omega (arith, more, ready.good.store.enters)); by_index = λ g h. ready.good.parties g (omega (arith, more, h)); by_index_2 = λ g h. ready.good.homes g (omega (arith, more, h)); listed = visited_listed l one c.args.from e c.requires.slot_bound.1 }

pub returns : goal.returns
returns c =
    record { tally_after = visit_record c.args.table.now c.requires.ready c.requires.slot_bound.0 _ c.write_table.ensures c.args.from c.visit-w.ensures; listed = c.enlist.ensures }
