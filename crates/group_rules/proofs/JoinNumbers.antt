-- The numbers of a join, one by one: S stays, the counts are sums, the last number is that of the last new slot if there is one.
-- Assumes nothing.
use mathlib.Core.Path.{◌≡◌, refl, sym, ap, ◌∙◌}
use mathlib.Core.Bool.{Bool, true, false, cond}
use mathlib.Core.List.{List, [], ◌∷◌}
use mathlib.Core.Option.{Option, some}
use Prim.Native.Nat.{ℕ, suc, ◌+◌, ◌-◌, ◌≤◌}
use native.Mathlib.Nat.{add-zero}
use native.Mathlib.Omega.{arith}
use lib.Dec.{eqb, ltb}
use lib.ListN.{length, get_or, set, length-set}
use lib.Seq.{get_or-set_same, get_or-set_other}
use borrow.Author.Tests.{eqb-false, ltb-true, ne_eqb}
use Rattle.numbers.proofs.Bytes.{by_bool}
use Rattle.rules.specs.World.{World, Slot}
use Rattle.rules.specs.Fill.{renumbered, last_of}
use Rattle.queues.specs.Meant.{if_marked}
use Rattle.slots.specs.Join.{joined_numbers_by}

-- a store, read beside its place and at it: what `simp` decides at numerals
away : (l : List ℕ) (i j v : ℕ) → eqb j i ≡ false → get_or (set l i v) j 0 ≡ get_or l j 0
away l i j v e = get_or-set_other l i j v 0 (eqb-false j i e)

here : (l : List ℕ) (i v : ℕ) → ltb i (length l) ≡ true → get_or (set l i v) i 0 ≡ v
here l i v e = get_or-set_same l i v 0 (ltb-true i (length l) e)

module _ (first : ℕ) (ns ns2 : List ℕ) where
  abbrev J : List ℕ
  J = joined_numbers_by first ns ns2

  pub numbers_long : length J ≡ length ns
  unfolding joined_numbers_by
  numbers_long = by_bool (eqb (get_or ns2 1 0) 0) (λ t. rw t (simp length-set)) (λ t. rw t (simp length-set))

  pub number_0 : get_or J 0 0 ≡ get_or ns 0 0
  unfolding joined_numbers_by
  number_0 = by_bool (eqb (get_or ns2 1 0) 0) (λ t. rw t (simp away)) (λ t. rw t (simp away))

  -- the eight numbers behind stay
  pub number_rest : (j : ℕ) → 8 ≤ j → get_or J j 0 ≡ get_or ns j 0
  unfolding joined_numbers_by
  number_rest j h =
      let n : (i : ℕ) → i ≤ 7 → eqb j i ≡ false = λ i a. ne_eqb j i (λ e. omega arith) in
      by_bool (eqb (get_or ns2 1 0) 0)
      (λ t. rw t (simp (away, n 1 (omega arith), n 2 (omega arith), n 3 (omega arith), n 4 (omega arith), n 5 (omega arith))))
      (λ t. rw t (simp (away, n 1 (omega arith), n 2 (omega arith), n 3 (omega arith), n 4 (omega arith), n 5 (omega arith), n 6 (omega arith), n 7 (omega arith))))

  module _ (e : length ns ≡ 16) where
    pub number_1 : get_or J 1 0 ≡ get_or ns 1 0 + get_or ns2 1 0
    unfolding joined_numbers_by
    number_1 = by_bool (eqb (get_or ns2 1 0) 0) (λ t. rw t (simp (away, here, e))) (λ t. rw t (simp (away, here, e)))

    pub number_2 : get_or J 2 0 ≡ get_or ns 2 0 + get_or ns2 2 0
    unfolding joined_numbers_by
    number_2 = by_bool (eqb (get_or ns2 1 0) 0) (λ t. rw t (simp (away, here, length-set, e))) (λ t. rw t (simp (away, here, length-set, e)))

    pub number_3 : get_or J 3 0 ≡ get_or ns 3 0 + get_or ns2 3 0
    unfolding joined_numbers_by
    number_3 = by_bool (eqb (get_or ns2 1 0) 0) (λ t. rw t (simp (away, here, length-set, e))) (λ t. rw t (simp (away, here, length-set, e)))

    pub number_4 : get_or J 4 0 ≡ get_or ns 4 0 + get_or ns2 4 0
    unfolding joined_numbers_by
    number_4 = by_bool (eqb (get_or ns2 1 0) 0) (λ t. rw t (simp (away, here, length-set, e))) (λ t. rw t (simp (away, here, length-set, e)))

    pub number_5 : get_or J 5 0 ≡ get_or ns 5 0 + get_or ns2 5 0
    unfolding joined_numbers_by
    number_5 = by_bool (eqb (get_or ns2 1 0) 0) (λ t. rw t (simp (here, length-set, e))) (λ t. rw t (simp (away, here, length-set, e)))

    pub number_6 : get_or J 6 0 ≡ cond (eqb (get_or ns2 1 0) 0) (get_or ns 6 0) (first + get_or ns2 1 0 - 1)
    unfolding joined_numbers_by
    number_6 = by_bool (eqb (get_or ns2 1 0) 0) (λ t. rw t (simp away)) (λ t. rw t (simp (away, here, length-set, e)))

    pub number_7 : get_or J 7 0 ≡ cond (eqb (get_or ns2 1 0) 0) (get_or ns 7 0) 1
    unfolding joined_numbers_by
    number_7 = by_bool (eqb (get_or ns2 1 0) 0) (λ t. rw t (simp away)) (λ t. rw t (simp (here, length-set, e)))

-- ---- the last number

module _ (W : World) where
  last_some : (k : ℕ) (ss : List (Slot W)) → last_of W (some k) (renumbered W (suc k) ss) ≡ some (k + length ss)
  unfolding last_of renumbered
  last_some k [] = ap some (sym (add-zero k))
  last_some k (s ∷ ss) = last_some (suc k) ss ∙ ap some (omega arith)

  pub last_new : (o : Option ℕ) (k : ℕ) (ss : List (Slot W)) → last_of W o (renumbered W k ss) ≡ cond (eqb (length ss) 0) o (some (k + length ss - 1))
  unfolding last_of renumbered
  last_new o k [] = refl
  last_new o k (s ∷ ss) = rw (ne_eqb (suc (length ss)) 0 (λ e. omega arith)) (last_some k ss ∙ ap some (omega arith))

pub marked_new : (t : Bool) (m x y : ℕ) → if_marked (cond t m 1) (cond t x y) ≡ cond t (if_marked m x) (some y)
marked_new true m x y = refl
marked_new false m x y = refl
