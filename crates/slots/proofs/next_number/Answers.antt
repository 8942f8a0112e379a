-- `slots::next_number` meets its contract: each way rewrites by the test that led there. Assumes nothing.
use borrow.Author.Tests.{eq-eqb, ne_eqb}
use Rattle.slots.specs.Join.{next_by}
use Rattle.slots.proofs.next_number.Goals as goal

pub returns-then-numbers-eq0 : goal.returns-then-numbers-eq0
unfolding next_by
returns-then-numbers-eq0 c = rw (eq-eqb _ _ c.if-numbers-eq0.true)

pub returns : goal.returns
unfolding next_by
returns c = rw (ne_eqb _ _ c.if-numbers-eq0.false)
