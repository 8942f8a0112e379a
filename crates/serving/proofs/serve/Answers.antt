-- `serving::serve` meets its contract: serving the line that stands makes of the columns now what serving the whole makes of those at entry. The
-- record of a slot that is met is written back into the table (proofs/Records.antt). A push finds room, as no more slots waited at the start than
-- there are, and one account is met for each push. Assumes nothing.
use mathlib.Core.Path.{refl, ap, ◌∙◌}
use native.Mathlib.Omega.{arith}
use Rattle.meaning.specs.Walks.{full_c}
use Rattle.serving.proofs.Steps.{serve_end, in_places, place_fits, line_fits, head_fits, here, serve_stays, serve_full, serve_back}
use Rattle.serving.proofs.Records.{ready_record, meet_record, held_record}
use Rattle.serving.proofs.serve.Goals as goal

pub loop-fixed-init : goal.loop-fixed-init
loop-fixed-init c = record {
  ready = c.requires.ready;
  same = refl;
  long = c.told-line;
  fits = c.requires.tail_bound;
  front = omega arith;
  slots = c.requires.by_index;
}

pub bounds-line-head : goal.bounds-line-head
bounds-line-head c = head_fits c.loop-fixed.invariant c.waiting.ensures c.loop-fixed-test.true

pub moving-moved-requires : goal.moving-moved-requires
moving-moved-requires c = omega (arith, place_fits c.loop-fixed.invariant c.waiting.ensures c.loop-fixed-test.true)

pub offset_bounds-table-slot : goal.offset_bounds-table-slot
offset_bounds-table-slot c = omega (arith, here c.loop-fixed.invariant c.waiting.ensures c.loop-fixed-test.true c.from-slot.ensures)

pub bounds-table-slot : goal.bounds-table-slot
bounds-table-slot c = here c.loop-fixed.invariant c.waiting.ensures c.loop-fixed-test.true c.from-slot.ensures

pub meet-met-requires : goal.meet-met-requires
meet-met-requires c =
    let v = c.loop-fixed.invariant in
    let sl = here v c.waiting.ensures c.loop-fixed-test.true c.from-slot.ensures in
    record {
      ready = ready_record c.loop-fixed.table v.ready sl;
      party_bound = (omega (arith, place_fits v c.waiting.ensures c.loop-fixed-test.true), sl);
    }

pub write_table-requires : goal.write_table-requires
write_table-requires c = here c.loop-fixed.invariant c.waiting.ensures c.loop-fixed-test.true c.from-slot.ensures

pub overflow_add-at : goal.overflow_add-at
overflow_add-at c = omega (arith, place_fits c.loop-fixed.invariant c.waiting.ensures c.loop-fixed-test.true)

pub overflow_add-head : goal.overflow_add-head
overflow_add-head c = omega (arith, head_fits c.loop-fixed.invariant c.waiting.ensures c.loop-fixed-test.true)

pub overflow_cast-line : goal.overflow_cast-line
overflow_cast-line c = omega (arith, here c.loop-fixed.invariant c.waiting.ensures c.loop-fixed-test.true c.from-slot.ensures)

pub bounds-line-back : goal.bounds-line-back
bounds-line-back c = line_fits c.loop-fixed.invariant c.waiting.ensures c.loop-fixed-test.true

pub overflow_add-back : goal.overflow_add-back
overflow_add-back c = omega (arith, line_fits c.loop-fixed.invariant c.waiting.ensures c.loop-fixed-test.true)

pub loop-fixed-smaller-then-not-full : goal.loop-fixed-smaller-then-not-full
loop-fixed-smaller-then-not-full c = omega (arith, in_places c.loop-fixed.invariant c.waiting.ensures c.loop-fixed-test.true)

pub loop-fixed-preserved-then-not-full : goal.loop-fixed-preserved-then-not-full
loop-fixed-preserved-then-not-full c =
    let l = c.loop-fixed in
    let v = l.invariant in
    let w = c.waiting.ensures in
    let here_w = c.loop-fixed-test.true in
    let p = c.from-slot.ensures in
    let sl = here v w here_w p in
    let t = c.write_table.ensures in
    let e = meet_record l.table v.ready sl c.meet-met.result.record t l.at c.meet-met.ensures in
    let f = c.full.ensures ∙ ap (full_c _) (held_record l.table v.ready sl c.meet-met.result.record t) in
    serve_back v w here_w p e c.moving-moved.ensures c.if-moved.true f c.if-not-full.true

pub loop-fixed-smaller-else-not-full : goal.loop-fixed-smaller-else-not-full
loop-fixed-smaller-else-not-full c = omega (arith, in_places c.loop-fixed.invariant c.waiting.ensures c.loop-fixed-test.true)

pub loop-fixed-preserved-else-not-full : goal.loop-fixed-preserved-else-not-full
loop-fixed-preserved-else-not-full c =
    let l = c.loop-fixed in
    let v = l.invariant in
    let w = c.waiting.ensures in
    let here_w = c.loop-fixed-test.true in
    let p = c.from-slot.ensures in
    let sl = here v w here_w p in
    let t = c.write_table.ensures in
    let e = meet_record l.table v.ready sl c.meet-met.result.record t l.at c.meet-met.ensures in
    let f = c.full.ensures ∙ ap (full_c _) (held_record l.table v.ready sl c.meet-met.result.record t) in
    serve_full v w here_w p e c.moving-moved.ensures c.if-moved.true f c.if-not-full.false

pub loop-fixed-smaller : goal.loop-fixed-smaller
loop-fixed-smaller c = omega (arith, in_places c.loop-fixed.invariant c.waiting.ensures c.loop-fixed-test.true)

pub loop-fixed-preserved : goal.loop-fixed-preserved
loop-fixed-preserved c =
    let l = c.loop-fixed in
    let v = l.invariant in
    let w = c.waiting.ensures in
    let here_w = c.loop-fixed-test.true in
    let p = c.from-slot.ensures in
    let e = meet_record l.table v.ready (here v w here_w p) c.meet-met.result.record c.write_table.ensures l.at c.meet-met.ensures in
    serve_stays v w here_w p e c.moving-moved.ensures c.if-moved.false

pub returns : goal.returns
returns c = serve_end c.loop-fixed.invariant c.waiting.ensures c.loop-fixed-test.false
