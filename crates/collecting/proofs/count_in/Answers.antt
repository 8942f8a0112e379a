-- `collecting::count_in` meets its contract, in both cases of the last number. Assumes nothing.
use borrow.Author.Tests.{eq-eqb, ne_eqb}
use Rattle.settle.specs.Ends.{in_counts}
use Rattle.collecting.proofs.count_in.Goals as goal

pub returns-then-opens-ne0 : goal.returns-then-opens-ne0
unfolding in_counts
returns-then-opens-ne0 c = rw (ne_eqb _ _ c.if-opens-ne0.true)

pub returns-else-opens-ne0 : goal.returns-else-opens-ne0
unfolding in_counts
returns-else-opens-ne0 c = rw (eq-eqb _ _ c.if-opens-ne0.false)
