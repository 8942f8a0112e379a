-- `sheet_adds::all` meets its contract: after i turns the first i messages are added and told of. Assumes nothing.
use Prim.Native.Nat.{◌-◌}
use native.Mathlib.Omega.{arith}
use Rattle.sheet_rows.specs.Answer.{adds}
use Rattle.sheet_adds.specs.Steps.{meant_by}
use Rattle.sheet_adds.proofs.Adding.{adds_then}
use Rattle.sheet_adds.proofs.Telling.{tells_none, tells_all}
use Rattle.sheet_adds.proofs.all.Goals as goal

pub loop-i-init : goal.loop-i-init
unfolding adds
loop-i-init c = tells_none c.args.s c.requires.0 c.args.at _

pub add-done-requires : goal.add-done-requires
add-done-requires c =
    let v = c.loop-i.invariant in
    (v.good, omega (arith, v.put.near, v.put.long, c.requires.3, c.loop-i-test.true))

pub loop-i-preserved : goal.loop-i-preserved
loop-i-preserved c =
    adds_then _ c.loop-i.i _ c.message_of-m.ensures c.loop-i.invariant c.add-done.ensures

pub returns : goal.returns
returns c =
    let l = c.loop-i in
    let a = c.args in
    tells_all (λ k. adds a.cells.now k (meant_by a.s)) 51 (omega arith) c.loop-i-test.false l.invariant
