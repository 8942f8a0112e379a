-- `packing::count_owned` meets its contract: the count so far and what the rest counts are the whole count. Assumes nothing.
use Rattle.columns.proofs.Scans.{count_step}
use borrow.Author.Tests.{eq-eqb, ne_eqb}
use lib.Dec.{eqb}
use Prim.Native.Nat.{◌≤◌}
use native.Mathlib.Nat.{sub-zero, zero-add, add-zero, sub-eq-zero_of_le}
use native.Mathlib.Omega.{arith}
use borrow.Author.Rules.{rules}
use Rattle.columns.specs.Lists.{count_i}
use Rattle.packing.proofs.count_owned.Goals as goal
use Rattle.packing.proofs.count_owned.Goals.{else-owner-i, then-owner-i}

pub loop-i-init : goal.loop-i-init
loop-i-init c = (search rules, search rules, rw (sub-zero, zero-add))

pub loop-i-preserved : goal.loop-i-preserved
loop-i-preserved c =
    let a = c.args in
    let s = count_step (λ j o. eqb o a.p) a.n c.loop-i.i a.owner.now 0 (omega arith) (omega arith) in
    let v = c.loop-i.invariant.2 in
    elim c.if-owner-i.branch [
      | then-owner-i w ↦ rw w.count-is (omega arith, omega arith, omega (arith, v, rw (eq-eqb _ _ w.if-owner-i.true) at s))
      | else-owner-i w ↦ rw w.count-is (omega arith, omega arith, omega (arith, v, rw (ne_eqb _ _ w.if-owner-i.false) at s))
    ]

pub returns : goal.returns
unfolding count_i
returns c =
    let e : c.args.n ≤ c.loop-i.i = omega arith in
    rw (sub-eq-zero_of_le e, add-zero) at c.loop-i.invariant.2
