-- `takes::wanted` meets its contract: what is counted, with the count of the rest, is the length of the queue; the count ends where there is
-- no more room. Assumes nothing.
use mathlib.Core.Path.{refl, sym, ◌∙◌}
use Prim.Native.Nat.{◌-◌, ◌<◌}
use native.Mathlib.Omega.{arith}
use Rattle.moves.specs.Moves.{wanted_c}
use Rattle.moves.proofs.Chains.{above, count_start, count_full, count_end, count_one, count_past}
use Rattle.takes.proofs.wanted.Goals as goal
use Rattle.takes.proofs.wanted.Goals.{else-from-place, then-from-place}

pub returns-then-height-held : goal.returns-then-height-held
unfolding wanted_c
returns-then-height-held c = omega arith

pub loop-i-init : goal.loop-i-init
loop-i-init c =
    count_start (omega (arith, c.requires.rows_bound, c.told-owner)) c.requires.linked.1 c.requires.linked.0 c.first_of-i.ensures _

pub returns-then-room-count : goal.returns-then-room-count
returns-then-room-count c =
    count_full (omega (arith, c.requires.rows_bound, c.told-owner)) c.requires.linked.1 c.loop-i.invariant c.if-room-count.true _ _ refl

pub loop-i-smaller : goal.loop-i-smaller
loop-i-smaller c =
    let here = c.loop-i-test.true in
    omega (arith, above c.loop-i.invariant.along here c.next_of-i.ensures, here)

pub loop-i-preserved : goal.loop-i-preserved
loop-i-preserved c =
    let here = c.loop-i-test.true in
    let more : c.loop-i.count < c.args.height - c.args.held = omega (arith, c.if-room-count.false) in
    let f = sym c.from.ensures in
    elim c.if-from-place.branch [
      | then-from-place w ↦ rw w.count-is (count_one (omega (arith, c.requires.rows_bound, c.told-owner)) c.requires.linked.1 c.loop-i.invariant here more c.next_of-i.ensures (f ∙ w.if-from-place.true))
      | else-from-place w ↦ rw w.count-is (count_past (omega (arith, c.requires.rows_bound, c.told-owner)) c.requires.linked.1 c.loop-i.invariant here more c.next_of-i.ensures (λ e. w.if-from-place.false (sym f ∙ e)))
    ]

pub returns : goal.returns
returns c =
    count_end (omega (arith, c.requires.rows_bound, c.told-owner)) c.requires.linked.1 c.loop-i.invariant (omega (arith, c.loop-i-test.false)) _ _ refl
