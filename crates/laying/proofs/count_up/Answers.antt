-- `laying::count_up` meets its contract: the loop leaves the numbers from `first` on in the part (columns' proofs/Lays.antt). Assumes nothing.
use mathlib.Core.Path.{refl, sym}
use Prim.Native.Nat.{◌+◌}
use native.Mathlib.Omega.{arith}
use Rattle.columns.proofs.Lays.{lay_start, part_wide, part_step, part_end, laid_part}
use Rattle.columns.proofs.Tabs.{length_tab, get_d_tab}
use Rattle.laying.proofs.count_up.Goals as goal

pub loop-i-init : goal.loop-i-init
loop-i-init c = lay_start _ _ _ _

pub loop-i-preserved : goal.loop-i-preserved
loop-i-preserved c =
    let a = c.args in
    let i = c.loop-i.i in
    let w = part_wide a.to a.n a.col.now c.requires.0 in
    part_step w (length_tab a.n a.first (λ k. k)) c.loop-i.invariant 0 (omega arith) _
    (sym (get_d_tab a.n a.first i (a.first + i) (λ k. k) 0 refl (omega arith)))

pub returns : goal.returns
returns c =
    let a = c.args in
    let w = part_wide a.to a.n a.col.now c.requires.0 in
    let l = length_tab a.n a.first (λ k. k) in
    rw (part_end w l c.loop-i.invariant (omega arith)) (laid_part a.to a.n _ a.col.now (omega arith) (sym l))
