-- `takes::take_front` meets its contract: the invariant, that the part passed with what the model takes of the rest is what it takes of the
-- whole, is a record of the file Takes, and each branch of a turn is one of its lemmas. Assumes nothing.
use lib.ListN.{length}
use native.Mathlib.Nat.{add-zero}
use Prim.Native.Nat.{◌<◌}
use mathlib.Core.Path.{sym, ◌∙◌}
use borrow.Author.Tests.{eq-eqb, ne_eqb}
use native.Mathlib.Omega.{arith}
use Rattle.takes.proofs.Takes.{start, finish_full, finish_end, room_left, jump, skip, pop, choose, go_on}
use Rattle.moves.proofs.Chains.{along_start, above, clear_start, along_mark}
use Rattle.takes.proofs.take_front.Goals as goal
use Rattle.takes.proofs.take_front.Goals.{else-from-place, then-from-place+else-k-eq2+else-k-eq0, then-from-place+else-k-eq2+then-k-eq0, then-from-place+then-k-eq2}

pub loop-i-init : goal.loop-i-init
loop-i-init c =
    let h = c.requires.linked in
    let small : c.args.place < 1280 = omega (arith, c.requires.rows_bound.1) in (
      jump (start c.told-owner c.told-taken c.requires.owner_bound) c.requires.rows_bound.0 _ (omega arith)
          (clear_start h small c.first_of-i.ensures),
      along_start h c.first_of-i.ensures,
    )

pub returns-then-wanted-got : goal.returns-then-wanted-got
returns-then-wanted-got c =
    finish_full c.loop-i.invariant.0 c.requires.rows_bound.0 c.told-taken c.loop-i-test.true (omega (arith, c.if-wanted-got.true))

pub bounds-taken-from : goal.bounds-taken-from
bounds-taken-from c =
    room_left c.loop-i.invariant.0 c.requires.rows_bound.0 c.loop-i-test.true
    (omega (arith, c.if-wanted-got.false)) c.requires.rows_bound.1
    (eq-eqb _ _ (sym c.from.ensures ∙ c.if-from-place.true))

pub loop-i-smaller : goal.loop-i-smaller
loop-i-smaller c =
    let here = c.loop-i-test.true in
    omega (arith, above c.loop-i.invariant.1 here c.next_of-i.ensures, here)

pub loop-i-preserved : goal.loop-i-preserved
loop-i-preserved c =
    let v = c.loop-i.invariant.0 in
    let a = c.loop-i.invariant.1 in
    let fit = c.requires.rows_bound.0 in
    let b = c.requires.rows_bound.1 in
    let small : c.args.place < 1280 = omega (arith, b) in
    let here = c.loop-i-test.true in
    let more : c.loop-i.got < c.args.wanted = omega (arith, c.if-wanted-got.false) in
    let l : c.loop-i.i < length c.loop-i.owner = omega (arith, v.long, here, fit) in
    let f = sym c.from.ensures in
    let e = c.next_of-i.ensures in
    elim c.if-from-place.branch [
      | then-from-place+then-k-eq2 w ↦ rw (w.owner-is, w.taken-is, w.got-is, w.ints-is, w.pops-is)
          (go_on (pop v fit here more (eq-eqb _ _ (f ∙ w.if-from-place.true)) (eq-eqb _ _ w.if-k-eq2.true)) (along_mark a _ l (omega arith)) here fit small e)
      | then-from-place+else-k-eq2+then-k-eq0 w ↦ rw (w.owner-is, w.taken-is, w.got-is, w.ints-is, w.pops-is)
          (go_on (choose v fit here more b (eq-eqb _ _ (f ∙ w.if-from-place.true)) (ne_eqb _ _ w.if-k-eq2.false) _ (rw (eq-eqb _ _ w.if-k-eq0.true))
          (omega (arith, v.fewer))) (along_mark a _ l (omega arith)) here fit small e)
      | then-from-place+else-k-eq2+else-k-eq0 w ↦ rw (w.owner-is, w.taken-is, w.got-is, w.ints-is, w.pops-is)
          (go_on (choose v fit here more b (eq-eqb _ _ (f ∙ w.if-from-place.true)) (ne_eqb _ _ w.if-k-eq2.false) _
          (rw (ne_eqb _ _ w.if-k-eq0.false, add-zero)) (omega (arith, v.fewer))) (along_mark a _ l (omega arith)) here fit small e)
      | else-from-place w ↦ rw (w.owner-is, w.taken-is, w.got-is, w.ints-is, w.pops-is) (go_on (skip v fit here more (ne_eqb _ _ (λ z. w.if-from-place.false (sym f ∙ z)))) a here fit small e)
    ]

pub returns : goal.returns
returns c =
    finish_end c.loop-i.invariant.0 c.requires.rows_bound.0 c.told-taken (omega (arith, c.loop-i-test.false))
