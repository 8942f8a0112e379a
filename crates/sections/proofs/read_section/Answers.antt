-- `sections::read_section` meets its contract: the count, and so many lines (proofs/Counting.antt). Assumes nothing.
use native.Mathlib.Nat.{le_trans, mul-le-mul_right}
use native.Mathlib.Omega.{arith}
use lib.ListN.{length}
use Rattle.sections.proofs.Counting.{few_rows, no_count, no_row, all_rows}
use Rattle.sections.proofs.read_section.Goals as goal

pub returns-in_default : goal.returns-in_default
returns-in_default c = no_count _ _ _ _ _ _ c.in_default.ensures

pub read_lines-requires : goal.read_lines-requires
read_lines-requires c =
    let few = few_rows _ _ c.args.line _ c.args.limits.now c.args.table.now _ c.in-Some.ensures in
    (c.in-Some.ensures.within, le_trans (mul-le-mul_right (length c.args.limits.now) few) c.requires.4)

pub overflow_add-result : goal.overflow_add-result
overflow_add-result c =
    omega (arith, few_rows _ _ c.args.line _ c.args.limits.now c.args.table.now _ c.in-Some.ensures, c.requires)

pub overflow_add-result-in-Err : goal.overflow_add-result-in-Err
overflow_add-result-in-Err c =
    omega (arith, few_rows _ _ c.args.line _ c.args.limits.now c.args.table.now _ c.in-Some.ensures, c.in-Err.ensures.few, c.requires)

pub returns-in-Ok : goal.returns-in-Ok
returns-in-Ok c = all_rows _ _ _ _ _ _ _ c.in-Some.ensures _ c.in-Ok.ensures

pub returns-in-Err : goal.returns-in-Err
returns-in-Err c = no_row _ _ _ _ _ _ _ c.in-Some.ensures _ c.in-Err.ensures
