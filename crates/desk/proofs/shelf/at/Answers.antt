-- `desk::shelf::at` meets its contract: the group at each of the places. Assumes nothing.
use Rattle.desk.specs.Shelves.{held_at}
use Rattle.desk.proofs.Shelves.{fourth_held}
use Rattle.desk.proofs.shelf.at.Goals as goal

pub returns-then-place-eq0-clause-there : goal.returns-then-place-eq0-clause-there
unfolding held_at
returns-then-place-eq0-clause-there c = rw c.if-place-eq0.true

pub returns-then-place-eq1-clause-there : goal.returns-then-place-eq1-clause-there
unfolding held_at
returns-then-place-eq1-clause-there c = rw c.if-place-eq1.true

pub returns-then-place-eq2-clause-there : goal.returns-then-place-eq2-clause-there
unfolding held_at
returns-then-place-eq2-clause-there c = rw c.if-place-eq2.true

pub returns-clause-there : goal.returns-clause-there
returns-clause-there c = fourth_held _ _ c.if-place-eq0.false c.if-place-eq1.false c.if-place-eq2.false
