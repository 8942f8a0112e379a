-- `sheet_fills::put` meets its contract: the line of numbers, the Display line and LF stand one behind the other. Assumes nothing.
use mathlib.Core.Path.{◌∙◌}
use native.Mathlib.Omega.{arith}
use Rattle.slots.specs.Meant.{meant}
use Rattle.display.proofs.Pieces.{puts_then}
use Rattle.lintelsong.specs.Closed.{table_of}
use Rattle.sheet_rows.specs.Answer.{fill_lines}
use Rattle.sheet_fills.proofs.Lines.{puts_shown}
use Rattle.sheet_fills.proofs.put.Goals as goal

pub overflow_add-one : goal.overflow_add-one
overflow_add-one c =
    let p = c.put_fill-one.ensures in
    let s = puts_shown (meant (table_of c.args.f.group)) c.put_fill-one.new.out c.put_fill-one.result (omega (arith, p.near, p.long, c.requires.1)) c.display-size.ensures in
    omega (arith, s.near, p.near, c.requires.1)

pub end_line-requires : goal.end_line-requires
end_line-requires c =
    let p = c.put_fill-one.ensures in
    let s = puts_shown (meant (table_of c.args.f.group)) c.put_fill-one.new.out c.put_fill-one.result (omega (arith, p.near, p.long, c.requires.1)) c.display-size.ensures in
    omega (arith, s.near, s.long, p.near, p.long, c.requires.1)

pub returns : goal.returns
unfolding fill_lines
returns c =
    let p = c.put_fill-one.ensures in
    let s = puts_shown (meant (table_of c.args.f.group)) c.put_fill-one.new.out c.put_fill-one.result (omega (arith, p.near, p.long, c.requires.1)) c.display-size.ensures in
    puts_then (rw (c.from-code.ensures ∙ c.number_of.ensures) at p) (puts_then s c.end_line.ensures)
