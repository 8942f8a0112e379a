-- What passing over does to the owners: the party's own queue loses its droppable rows, every other queue stays, and so does the owner of
-- a row that is not the party's. Assumes nothing.
use mathlib.Core.Path.{◌≡◌, refl, sym, ap, ◌∙◌}
use mathlib.Core.List.{List, [], ◌∷◌}
use mathlib.Core.Bool.{Bool, false}
use Prim.Native.Nat.{ℕ, zero, suc, ◌+◌, ◌<◌, ◌≤◌}
use native.Mathlib.Nat.{le_refl}
use native.Mathlib.Omega.{arith}
use lib.Dec.{eqb}
use borrow.Author.Tests.{ne_eqb, eqb-true}
use lib.ListN.{get_or}
use Rattle.rules.specs.World.{World, Args, keep}
use Rattle.rules.specs.Queues.{droppable, undroppable}
use Rattle.columns.specs.Lists.{map_i, pick}
use Rattle.meaning.specs.Meaning.{owned, Numbers}
use Rattle.moves.specs.Moves.{pass_cell, gone}
use Rattle.numbers.proofs.Bytes.{by_bool}

module _ (ext : ℕ → Bool) (time : ℕ → ℕ) (A : Args (Numbers ext time)) (class : List ℕ) where
  abbrev W : World
  W = Numbers ext time

  -- the drops of the rows from i to below i + m are those of the column
  abbrev pub Drops : ℕ → ℕ → Type 0
  Drops m i = (j : ℕ) → i ≤ j → j < i + m → droppable W A.filter j ≡ eqb (get_or class j 0) 2

  later : (m i : ℕ) → Drops (suc m) i → Drops m (i + 1)
  later m i d j a b = d j (omega arith) (omega arith)

  module _ (p : ℕ) (here : eqb gone p ≡ false) where
    pub pass_own : (m i : ℕ) (os : List ℕ) → Drops m i → owned p m i (map_i (pass_cell class p) m i os) ≡ undroppable W A.filter (owned p m i os)
    unfolding undroppable keep pick map_i
    pass_own zero i os d = refl
    pass_own (suc m) i [] d = refl
    pass_own (suc m) i (o ∷ os) d =
        by_bool (eqb o p)
        (λ e. by_bool (eqb (get_or class i 0) 2)
        (λ f. simp (e, f, here, d i (le_refl i) (omega arith)) (pass_own m (i + 1) os (later m i d)))
        (λ f. simp (e, f, d i (le_refl i) (omega arith)) (ap (λ (l : List ℕ). i ∷ l) (pass_own m (i + 1) os (later m i d)))))
        (λ e. simp e (pass_own m (i + 1) os (later m i d)))

    pub pass_other : (q m i : ℕ) (os : List ℕ) → eqb gone q ≡ false → (q ≡ p → ⊥) → owned q m i (map_i (pass_cell class p) m i os) ≡ owned q m i os
    unfolding pick map_i
    pass_other q zero i os g n = refl
    pass_other q (suc m) i [] g n = refl
    pass_other q (suc m) i (o ∷ os) g n =
        by_bool (eqb o p)
        (λ e. by_bool (eqb (get_or class i 0) 2)
        (λ f. simp (e, f, g, ne_eqb o q (λ h. n (sym h ∙ eqb-true o p e))) (pass_other q m (i + 1) os g n))
        (λ f. simp (e, f, pass_other q m (i + 1) os g n)))
        (λ e. simp (e, pass_other q m (i + 1) os g n))

    -- a row whose owner is not p keeps it
    pub pass_kept : (m i j : ℕ) (os : List ℕ) → (get_or os j 0 ≡ p → ⊥) → get_or (map_i (pass_cell class p) m i os) j 0 ≡ get_or os j 0
    unfolding map_i
    pass_kept zero i j os n = refl
    pass_kept (suc m) i j [] n = refl
    pass_kept (suc m) i zero (o ∷ os) n = rw (ne_eqb o p n)
    pass_kept (suc m) i (suc j) (o ∷ os) n = pass_kept m (i + 1) j os n
