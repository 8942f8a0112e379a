-- `sheets::runs::all` meets its contract: after i turns the first i fills are done and told of. Assumes nothing.
use Prim.Native.Nat.{◌-◌}
use native.Mathlib.Omega.{arith}
use Rattle.sheet_rows.specs.Answer.{fills}
use Rattle.sheet_adds.specs.Steps.{meant_by}
use Rattle.sheet_fills.specs.Steps.{skips_in}
use Rattle.sheets.proofs.Filling.{fills_then}
use Rattle.sheet_adds.proofs.Telling.{tells_none, tells_all}
use Rattle.sheets.proofs.runs.all.Goals as goal

pub loop-i-init : goal.loop-i-init
unfolding fills
loop-i-init c = tells_none c.args.s c.requires.0 c.args.at _

pub step-done-requires : goal.step-done-requires
step-done-requires c =
    let v = c.loop-i.invariant in
    (v.good, c.requires.1, omega (arith, v.put.near, v.put.long, c.requires.4, c.loop-i-test.true))

pub loop-i-preserved : goal.loop-i-preserved
loop-i-preserved c =
    fills_then _ _ c.loop-i.i _ (c.asked_of-asked.ensures (skips_in c.args.rows)) c.loop-i.invariant c.step-done.ensures

pub returns : goal.returns
returns c =
    let l = c.loop-i in
    let a = c.args in
    tells_all (λ k. fills (skips_in a.rows) a.cells.now k (meant_by a.s)) 247 (omega arith) c.loop-i-test.false l.invariant
