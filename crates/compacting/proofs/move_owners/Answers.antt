-- `compacting::move_owners` meets its contract: the owners are passed from the front, each place written once (`Passing` of owners).
-- Assumes nothing.
use mathlib.Core.Path.{◌≡◌, sym, ◌∙◌}
use Prim.Native.Nat.{◌<◌, ◌≤◌}
use native.Mathlib.Omega.{arith}
use lib.ListN.{length, take}
use lib.Seq.{length-take-le}
use Rattle.columns.proofs.Scans.{map_front}
use Rattle.queues.specs.Compact.{new_place, moved_c}
use Rattle.owners.proofs.Passing.{pass_start, pass_store, pass_end}
use Rattle.compacting.proofs.move_owners.Goals as goal
use Rattle.compacting.proofs.move_owners.Goals.{then-is_place, else-is_place}

pub loop-o-init : goal.loop-o-init
loop-o-init c = pass_start _ _ _

pub loop-o-preserved : goal.loop-o-preserved
loop-o-preserved c =
    let a = c.args in
    let v = c.loop-o.invariant in
    let front : length (take a.n a.owner.now) ≡ a.n = length-take-le a.n a.owner.now (omega arith) in
    let l : c.loop-o.o-index < a.n = omega arith in
    let h : a.n ≤ length (take a.n a.owner.now) = omega arith in
    let e = sym c.is_place.ensures in
    elim c.if-is_place.branch [
      | then-is_place w ↦ rw w.o-items-is (pass_store v l h _ (rw (e ∙ w.if-is_place.true, w.from.ensures)))
      | else-is_place w ↦ rw w.o-items-is (pass_store v l h _ (rw (e ∙ w.if-is_place.false)))
    ]

pub returns : goal.returns
unfolding moved_c
returns c =
    let a = c.args in
    let front = length-take-le a.n a.owner.now (omega arith) in
    rw (pass_end c.loop-o.invariant (omega arith)) (map_front (new_place a.seats.now) a.n 0 a.owner.now)
