-- `fill_answer::filter_by` meets its contract: by the test. Assumes nothing.
use borrow.Author.Tests.{eq-eqb, ne_eqb}
use Rattle.fill_answer.proofs.filter_by.Goals as goal

pub returns-then-filtered-eq0 : goal.returns-then-filtered-eq0
returns-then-filtered-eq0 c = rw (eq-eqb _ _ c.if-filtered-eq0.true)

pub returns-else-filtered-eq0 : goal.returns-else-filtered-eq0
returns-else-filtered-eq0 c = rw (ne_eqb _ _ c.if-filtered-eq0.false)
