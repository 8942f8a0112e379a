-- `judging::judge` meets its contract: the mark is the callee's, the cost goes by the test of the row. Assumes nothing.
use mathlib.Core.Path.{sym, ◌∙◌}
use borrow.Author.Tests.{lt-ltb, le-ltb}
use Rattle.entry.specs.Entry.{mark_of, cost_of}
use Rattle.judging.proofs.judge.Goals as goal

pub returns-then-row-n : goal.returns-then-row-n
unfolding mark_of cost_of
returns-then-row-n c =
    let found = c.find_row-row.ensures in
    (c.mark_of-mark.ensures ∙ rw found, rw (sym found, lt-ltb _ _ c.if-row-n.true))

pub returns : goal.returns
unfolding mark_of cost_of
returns c =
    let found = c.find_row-row.ensures in
    (c.mark_of-mark.ensures ∙ rw found, rw (sym found, le-ltb _ _ c.if-row-n.false))
