-- `collecting::collect_rows` meets its contract: the rows copied so far lie over the column (crate settle, Copying, `RowsDone`). Assumes
-- nothing.
use mathlib.Core.Path.{ap, ◌∙◌}
use native.Mathlib.Omega.{arith}
use lib.ListN.{length}
use Rattle.columns.specs.Rows.{row_at}
use Rattle.columns.proofs.Rows.{length_row}
use Rattle.settle.proofs.Copying.{rows_start, rows_step, rows_end}
use Rattle.collecting.proofs.collect_rows.Goals as goal

pub loop-k-init : goal.loop-k-init
loop-k-init c = rows_start _ _ _ _ _

pub get_row-x-requires : goal.get_row-x-requires
get_row-x-requires c =
    omega (arith, c.from.ensures, c.requires.there c.loop-k.k c.loop-k-test.true)

pub loop-k-preserved : goal.loop-k-preserved
loop-k-preserved c =
    let l = c.loop-k-test.true in
    let x = c.get_row-x.ensures ∙ ap (row_at c.args.from.now) c.from.ensures in
    rw c.put_row.ensures
    (rows_step _ _ _ _ _ c.loop-k.invariant l c.requires.fits _ x (ap length x ∙ length_row c.args.from.now _ (c.requires.there c.loop-k.k l)))

pub returns : goal.returns
returns c = rows_end _ _ _ _ _ c.loop-k.invariant c.loop-k-test.false
