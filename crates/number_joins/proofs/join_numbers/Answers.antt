-- `number_joins::join_numbers` meets its contract: no sum wraps, and each way out rewrites by whether the right has slots. Assumes nothing.
use native.Mathlib.Omega.{arith}
use lib.Dec.{lit≤}
use borrow.Author.Tests.{eq-eqb, ne_eqb}
use Rattle.slots.specs.Join.{joined_numbers_by}
use Rattle.number_joins.proofs.join_numbers.Goals as goal

pub overflow_add-slots : goal.overflow_add-slots
overflow_add-slots c = omega (arith, c.requires.low 1 (lit≤ tt) (lit≤ tt))

pub overflow_add-accounts : goal.overflow_add-accounts
overflow_add-accounts c = omega (arith, c.requires.low 2 (lit≤ tt) (lit≤ tt))

pub overflow_add-messages : goal.overflow_add-messages
overflow_add-messages c = omega (arith, c.requires.low 3 (lit≤ tt) (lit≤ tt))

pub overflow_add-ints : goal.overflow_add-ints
overflow_add-ints c = omega (arith, c.requires.low 4 (lit≤ tt) (lit≤ tt))

pub overflow_add-exts : goal.overflow_add-exts
overflow_add-exts c = omega (arith, c.requires.low 5 (lit≤ tt) (lit≤ tt))

pub overflow_add-numbers : goal.overflow_add-numbers
overflow_add-numbers c =
    omega (arith, c.requires.low 1 (lit≤ tt) (lit≤ tt), c.requires.next)

pub returns-then-n-ne0 : goal.returns-then-n-ne0
unfolding joined_numbers_by
returns-then-n-ne0 c = rw (ne_eqb _ _ c.if-n-ne0.true)

pub returns-else-n-ne0 : goal.returns-else-n-ne0
unfolding joined_numbers_by
returns-else-n-ne0 c = rw (eq-eqb _ _ c.if-n-ne0.false)
