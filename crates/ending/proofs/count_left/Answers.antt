-- `ending::count_left` meets its contract: the count so far and what the rest counts are the whole count. Assumes nothing.
use Rattle.columns.proofs.Scans.{count_step}
use borrow.Author.Tests.{lt-ltb, le-ltb}
use lib.Dec.{ltb}
use lib.ListN.{get_or}
use mathlib.Core.Path.{◌≡◌}
use mathlib.Core.Bool.{true, false}
use Prim.Native.Nat.{◌≤◌}
use native.Mathlib.Nat.{sub-zero, zero-add, add-zero, sub-eq-zero_of_le}
use native.Mathlib.Omega.{arith}
use borrow.Author.Rules.{rules}
use Rattle.columns.specs.Lists.{count_i}
use Rattle.meaning.specs.Passes.{left_c}
use Rattle.ending.proofs.count_left.Goals as goal
use Rattle.ending.proofs.count_left.Goals.{else-from-places, then-from-places}

pub loop-i-init : goal.loop-i-init
unfolding left_c
loop-i-init c = (search rules, search rules, rw (sub-zero, zero-add))

pub loop-i-preserved : goal.loop-i-preserved
loop-i-preserved c =
    let a = c.args in
    let s = count_step (λ j o. ltb o a.places) a.rows c.loop-i.i a.owner.now 0 (omega arith) (omega arith) in
    let v = c.loop-i.invariant.2 in
    let o = get_or a.owner.now c.loop-i.i 0 in
    elim c.if-from-places.branch [
      | then-from-places w ↦
          let h : ltb o a.places ≡ true = lt-ltb o a.places (search rules) in
          rw w.count-is (omega arith, omega arith, omega (arith, v, rw h at s))
      | else-from-places w ↦
          let h : ltb o a.places ≡ false = le-ltb o a.places (search rules) in
          rw w.count-is (omega arith, omega arith, omega (arith, v, rw h at s))
    ]

pub returns : goal.returns
unfolding count_i
returns c =
    let e : c.args.rows ≤ c.loop-i.i = omega arith in
    rw (sub-eq-zero_of_le e, add-zero) at c.loop-i.invariant.2
