-- `rows::get_row` meets its contract: a part of 32 bytes is an array of them (columns' proofs/Lays.antt). Assumes nothing.
use mathlib.Core.Path.{◌≡◌}
use Prim.Native.Nat.{◌+◌, ◌-◌, ◌*◌}
use native.Mathlib.Omega.{arith}
use Rattle.columns.specs.Rows.{row_at}
use Rattle.columns.proofs.Lays.{part_wide}
use Rattle.rows.proofs.get_row.Goals as goal

pub unwrap-requires : goal.unwrap-requires
unwrap-requires c = c.try_from.ensures.0 (part_wide (32 * c.args.i) 32 c.args.col.now c.requires)

pub returns : goal.returns
unfolding row_at
returns c =
    let i = c.args.i in
    let size : 32 * i + 32 - 32 * i ≡ 32 = omega arith in
    let whole = rw c.unwrap.ensures at c.try_from.ensures.1 in
    rw size at whole.same
