-- `cells::clear` meets its contract: the loop over the part leaves `blank` in each of its cells (columns' proofs/Lays.antt). Assumes nothing.
use mathlib.Core.Path.{sym}
use native.Mathlib.Omega.{arith}
use lib.ListN.{length-replicate, get_or-replicate}
use Rattle.columns.proofs.Lays.{lay_start, part_wide, part_step, part_end, laid_part}
use Rattle.cells.proofs.clear.Goals as goal

pub loop-cell-init : goal.loop-cell-init
loop-cell-init g c = lay_start _ _ _ _

pub loop-cell-preserved : goal.loop-cell-preserved
loop-cell-preserved g c =
    let a = c.args in
    let w = part_wide a.from a.n a.col.now c.requires in
    let i = c.loop-cell.cell-index in
    part_step w (length-replicate a.n a.blank) c.loop-cell.invariant a.blank (omega arith) _ (sym (get_or-replicate a.n i a.blank a.blank (omega arith)))

pub returns : goal.returns
returns g c =
    let a = c.args in
    let w = part_wide a.from a.n a.col.now c.requires in
    let l = length-replicate a.n a.blank in
    rw (part_end w l c.loop-cell.invariant (omega arith)) (laid_part a.from a.n _ a.col.now (omega arith) (sym l))
