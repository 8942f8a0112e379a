-- `rows::find_row` meets its contract: the rows passed are not x, so what is left is searched (columns' proofs/Index.antt). Assumes nothing.
use mathlib.Core.Path.{◌≡◌, sym, ◌∙◌}
use native.Mathlib.Omega.{arith}
use Rattle.columns.proofs.Index.{search_start, search_step, search_found, search_end}
use Rattle.rows.proofs.find_row.Goals as goal

pub loop-i-init : goal.loop-i-init
loop-i-init c = search_start _ _ _

pub returns-then-same_row : goal.returns-then-same_row
returns-then-same_row c = search_found c.loop-i.invariant (omega arith) (sym c.same_row.ensures ∙ c.if-same_row.true)

pub loop-i-preserved : goal.loop-i-preserved
loop-i-preserved c = search_step c.loop-i.invariant (omega arith) (sym c.same_row.ensures ∙ c.if-same_row.false)

pub returns : goal.returns
returns c =
    let last : c.loop-i.i ≡ c.args.n = omega arith in
    rw last at (search_end c.loop-i.invariant (omega arith))
