-- `openings::first` meets its contract: what the openings that are left make of the columns now is what all of them make of those at entry;
-- no more slots wait than were opened. The record of a slot that is opened is written back into the table (crate `serving`, proofs/Records).
-- Assumes nothing.
use mathlib.Core.Path.{refl, ap, ◌∙◌}
use native.Mathlib.Nat.{not-suc-le-zero}
use native.Mathlib.Omega.{arith}
use borrow.Author.Rules.{rules}
use Rattle.meaning.specs.Walks.{full_c}
use Rattle.new_slots.specs.declared.Front.{Front}
use Rattle.serving.proofs.Records.{ready_record, seek_record, held_record}
use Rattle.openings.proofs.Steps.{first_end, here, first_drops, first_full, first_waits}
use Rattle.openings.proofs.first.Goals as goal
use Rattle.openings.proofs.first.Goals.{then-not-full, else-not-full}

pub loop-front-init : goal.loop-front-init
loop-front-init c = record {
  ready = c.requires.ready;
  same = refl;
  long = search rules;
  wide = c.told-number;
  fits = omega arith;
  room = c.requires.numbers_fit.0;
  high = omega (arith, c.from.ensures, c.requires.numbers_fit.1);
  slots = λ q l. absurd (not-suc-le-zero l);
}

pub next_number-requires : goal.next_number-requires
next_number-requires c =
    let v = c.loop-front.invariant in
    (omega (arith, v.room, c.loop-front-test.true), omega (arith, v.high, c.loop-front-test.true))

pub bounds-number-slot : goal.bounds-number-slot
bounds-number-slot c = here c.loop-front.invariant c.loop-front-test.true

pub offset_bounds-table-slot : goal.offset_bounds-table-slot
offset_bounds-table-slot c = omega (arith, here c.loop-front.invariant c.loop-front-test.true)

pub bounds-table-slot : goal.bounds-table-slot
bounds-table-slot c = here c.loop-front.invariant c.loop-front-test.true

pub seek-w-requires : goal.seek-w-requires
seek-w-requires c =
    let a = c.loop-front in
    let sl = here a.invariant c.loop-front-test.true in
    record { ready = ready_record a.table a.invariant.ready sl; slot_bound = sl }

pub write_table-requires : goal.write_table-requires
write_table-requires c =
    here c.loop-front.invariant c.loop-front-test.true

pub bounds-number-slot-then-held-eq0 : goal.bounds-number-slot-then-held-eq0
bounds-number-slot-then-held-eq0 c =
    here c.loop-front.invariant c.loop-front-test.true

pub dropped-requires : goal.dropped-requires
dropped-requires c =
    omega (arith, c.loop-front.invariant.high, c.loop-front-test.true)

pub returns-then-held-eq0 : goal.returns-then-held-eq0
returns-then-held-eq0 c =
    let a = c.loop-front in
    let v = a.invariant in
    let l = c.loop-front-test.true in
    let t = c.write_table.ensures in
    let e = seek_record a.table v.ready (here v l) c.seek-w.result.record t _ a.at c.seek-w.ensures in
    let n = c.held.ensures ∙ held_record a.table v.ready (here v l) c.seek-w.result.record t in
    rw (c.dropped.ensures, c.next_number.ensures)
    (rw c.from.ensures at (first_drops v l e n c.if-held-eq0.true))

pub overflow_cast-line : goal.overflow_cast-line
overflow_cast-line c =
    omega (arith, here c.loop-front.invariant c.loop-front-test.true)

pub bounds-line-tail : goal.bounds-line-tail
bounds-line-tail c =
    let v = c.loop-front.invariant in
    omega (arith, v.room, v.fits)

pub overflow_add-tail : goal.overflow_add-tail
overflow_add-tail c =
    let v = c.loop-front.invariant in
    omega (arith, v.room, v.fits)

pub onward-front-requires : goal.onward-front-requires
onward-front-requires c =
    let v = c.loop-front.invariant in
    let l = c.loop-front-test.true in
    (here v l, omega (arith, v.high, l), l)

pub loop-front-smaller : goal.loop-front-smaller
loop-front-smaller c =
    omega (arith, c.loop-front-test.true, ap (λ (x : Front). x.left) c.onward-front.ensures)

pub loop-front-preserved : goal.loop-front-preserved
loop-front-preserved c =
    let a = c.loop-front in
    let v = a.invariant in
    let l = c.loop-front-test.true in
    let t = c.write_table.ensures in
    let e = seek_record a.table v.ready (here v l) c.seek-w.result.record t _ a.at c.seek-w.ensures in
    let held = held_record a.table v.ready (here v l) c.seek-w.result.record t in
    let n = c.held.ensures ∙ held in
    let y = c.full.ensures ∙ ap (full_c _) held in
    let given = c.next_number.ensures in
    elim c.if-not-full.branch [
      | then-not-full w ↦ rw (c.onward-front.ensures, given, w.line-is, w.tail-is) (first_waits v l e n c.if-held-eq0.false y w.if-not-full.true)
      | else-not-full w ↦ rw (c.onward-front.ensures, given, w.line-is, w.tail-is) (first_full v l e n c.if-held-eq0.false y w.if-not-full.false)
    ]

pub serve-w-requires : goal.serve-w-requires
serve-w-requires c =
    let v = c.loop-front.invariant in
    record { ready = v.ready; tail_bound = omega (arith, v.fits, v.room); by_index = v.slots }

pub overflow_cast-result : goal.overflow_cast-result
overflow_cast-result c = omega (arith, c.loop-front.invariant.high)

pub returns : goal.returns
returns c =
    rw c.from.ensures at
    (first_end c.loop-front.invariant (omega (arith, c.loop-front-test.false)) c.serve-w.ensures)
