-- `text::sheet::parse` meets its contract: the first section that is broken has the line, and else the tables hold the sheet
-- (proofs/Sections.antt). Assumes nothing.
use mathlib.Core.Path.{refl, sym, ap}
use Rattle.std.proofs.lemmas.Result.{err_from_is_err_and}
use Rattle.text.specs.Steps.{laid_out}
use Rattle.text.proofs.Sections.{read_long, read_skips, read_messages, read_fills, read_extra, read_all}
use Rattle.text.proofs.sheet.parse.Goals as goal

pub returns-then-text-gt16384 : goal.returns-then-text-gt16384
returns-then-text-gt16384 c = ap laid_out (sym (read_long _ c.if-text-gt16384.true))

pub returns-in_err-s : goal.returns-in_err-s
returns-in_err-s c =
    let p = err_from_is_err_and c.from_residual.result c.from_residual.ensures.1 in
    rw (p.1, p.2) (ap laid_out (sym (read_skips c.args.text.now c.if-text-gt16384.false _ c.in_err-s.ensures)))

pub returns-in_err-m : goal.returns-in_err-m
returns-in_err-m c =
    let p = err_from_is_err_and c.from_residual-in_err-m.result c.from_residual-in_err-m.ensures.1 in
    rw (p.1, p.2) (ap laid_out (sym (read_messages c.args.text.now c.if-text-gt16384.false _ c.in_ok-s.ensures _ c.in_err-m.ensures)))

pub returns-in_err-f : goal.returns-in_err-f
returns-in_err-f c =
    let p = err_from_is_err_and c.from_residual-in_err-f.result c.from_residual-in_err-f.ensures.1 in
    rw (p.1, p.2) (ap laid_out (sym (read_fills c.args.text.now c.if-text-gt16384.false _ c.in_ok-s.ensures _ c.in_ok-m.ensures _ c.in_err-f.ensures)))

pub returns-then-f-text : goal.returns-then-f-text
returns-then-f-text c =
    ap laid_out (sym (read_extra c.args.text.now c.if-text-gt16384.false _ c.in_ok-s.ensures _ c.in_ok-m.ensures _ c.in_ok-f.ensures c.if-f-text.true))

pub returns : goal.returns
returns c =
    read_all c.args.text.now c.if-text-gt16384.false _ c.in_ok-s.ensures _ c.in_ok-m.ensures _ c.in_ok-f.ensures c.if-f-text.false refl refl refl refl refl refl
