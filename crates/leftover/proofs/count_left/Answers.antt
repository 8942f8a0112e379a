-- `leftover::count_left` meets its contract, with an account left and without. Assumes nothing.
use mathlib.Core.Path.{◌≡◌}
use mathlib.Core.Bool.{true, false}
use lib.Dec.{eqb}
use borrow.Author.Tests.{eq-eqb, ne_eqb}
use Rattle.settle.specs.Ends.{left_counts}
use Rattle.leftover.proofs.count_left.Goals as goal

pub returns-then-b-eq0 : goal.returns-then-b-eq0
unfolding left_counts
returns-then-b-eq0 c = let p : eqb c.args.b 0 ≡ true = eq-eqb _ 0 c.if-b-eq0.true in rw p

pub returns-else-b-eq0 : goal.returns-else-b-eq0
unfolding left_counts
returns-else-b-eq0 c = let p : eqb c.args.b 0 ≡ false = ne_eqb _ 0 c.if-b-eq0.false in rw p
