-- `judging::mark_of` meets its contract: by the tests in their order. Assumes nothing.
use mathlib.Core.Path.{sym}
use borrow.Author.Tests.{eq-eqb, ne_eqb, lt-ltb, le-ltb}
use Rattle.entry.specs.Entry.{mark_by}
use Rattle.judging.proofs.mark_of.Goals as goal

pub returns-then-find_row-k : goal.returns-then-find_row-k
unfolding mark_by
returns-then-find_row-k c = rw (sym c.find_row.ensures, lt-ltb _ _ c.if-find_row-k.true)

pub returns-then-verdicts-row-ne0 : goal.returns-then-verdicts-row-ne0
unfolding mark_by
returns-then-verdicts-row-ne0 c =
    rw (sym c.find_row.ensures, le-ltb _ _ c.if-find_row-k.false, lt-ltb _ _ c.if-row-n.true, ne_eqb _ _ c.if-verdicts-row-ne0.true)

pub returns-else-verdicts-row-ne0 : goal.returns-else-verdicts-row-ne0
unfolding mark_by
returns-else-verdicts-row-ne0 c =
    rw (sym c.find_row.ensures, le-ltb _ _ c.if-find_row-k.false, lt-ltb _ _ c.if-row-n.true, eq-eqb _ _ c.if-verdicts-row-ne0.false)

pub returns-else-row-n : goal.returns-else-row-n
unfolding mark_by
returns-else-row-n c = rw (sym c.find_row.ensures, le-ltb _ _ c.if-find_row-k.false, le-ltb _ _ c.if-row-n.false)
