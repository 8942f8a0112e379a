-- `joins::join::decide` meets its contract: each way out rewrites by the tests that led there. Assumes nothing.
use mathlib.Core.Path.{sym, ◌∙◌}
use mathlib.Core.List.{List}
use Prim.Native.Nat.{ℕ, ◌≤◌}
use native.Mathlib.Omega.{arith}
use borrow.Author.Tests.{lt-ltb, le-ltb, le-leb, lt-leb}
use lib.Dec.{eqb}
use lib.ListN.{get_or}
use Rattle.numbers.proofs.Bytes.{by_bool}
use Rattle.slots.specs.Join.{next_by, join_code_by}
use Rattle.joins.proofs.join.decide.Goals as goal

-- a first new number fits
next_le : (ns : List ℕ) → get_or ns 6 0 ≤ 65535 → next_by ns ≤ 65536
unfolding next_by
next_le ns h = by_bool (eqb (get_or ns 7 0) 0) (λ t. rw t (omega arith)) (λ f. rw f (omega arith))

pub overflow_add-used : goal.overflow_add-used
overflow_add-used c =
    omega (arith, c.next_number.ensures, next_le c.args.left.now c.requires.rooms.last, c.requires.rooms_2.slots)

pub returns-then-many : goal.returns-then-many
unfolding join_code_by
returns-then-many c = simp (lt-ltb _ _ c.if-many.true)

pub returns-then-twice : goal.returns-then-twice
unfolding join_code_by
returns-then-twice c = simp (le-ltb _ _ c.if-many.false, sym c.shared-twice.ensures ∙ c.if-twice.true)

pub returns-then-used : goal.returns-then-used
unfolding join_code_by
returns-then-used c =
    simp (
      le-ltb _ _ c.if-many.false,
      sym c.shared-twice.ensures ∙ c.if-twice.false,
      le-leb _ _ (rw c.next_number.ensures at c.if-used.true),
    )

pub returns : goal.returns
unfolding join_code_by
returns c =
    simp (
      le-ltb _ _ c.if-many.false,
      sym c.shared-twice.ensures ∙ c.if-twice.false,
      lt-leb _ _ (rw c.next_number.ensures at c.if-used.false),
    )
