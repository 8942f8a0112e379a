-- `collecting::collect_owners` meets its contract: the seats of the rows passed lie over the column (crate settle, Copying, `Cells`). Assumes
-- nothing.
use mathlib.Core.Path.{ap, sym, ◌∙◌}
use Prim.Native.Nat.{◌-◌, ℕ}
use native.Mathlib.Omega.{arith}
use native.Mathlib.Nat.{zero-add}
use lib.ListN.{get_or}
use Rattle.settle.proofs.Copying.{cells_start, cells_step, cells_end}
use Rattle.collecting.proofs.collect_owners.Goals as goal

pub loop-k-init : goal.loop-k-init
loop-k-init c = cells_start _ _ _ _ _

pub bounds-owner-from : goal.bounds-owner-from
bounds-owner-from c =
    omega (arith, c.from.ensures, c.requires.there c.loop-k.k c.loop-k-test.true)

pub overflow_sub-to : goal.overflow_sub-to
overflow_sub-to c =
    let a = c.args in
    let e = c.from-o.ensures ∙ ap (λ (i : ℕ). get_or a.owner.now i 0) c.from.ensures in
    omega (arith, e, c.requires.from c.loop-k.k c.loop-k-test.true)

pub bounds-seat-o : goal.bounds-seat-o
bounds-seat-o c =
    let a = c.args in
    let e = c.from-o.ensures ∙ ap (λ (i : ℕ). get_or a.owner.now i 0) c.from.ensures in
    omega (arith, e, c.requires.party c.loop-k.k c.loop-k-test.true)

pub loop-k-preserved : goal.loop-k-preserved
loop-k-preserved c =
    let a = c.args in
    let e = c.from-o.ensures ∙ ap (λ (i : ℕ). get_or a.owner.now i 0) (c.from.ensures ∙ ap (λ (i : ℕ). get_or a.rows.now i 0) (sym (zero-add _))) in
    cells_step _ _ _ _ _ c.loop-k.invariant c.loop-k-test.true (omega arith) _ (ap (λ (i : ℕ). get_or a.seat.now (i - 2048) 0) e)

pub returns : goal.returns
returns c = cells_end _ _ _ _ _ c.loop-k.invariant c.loop-k-test.false
