-- Laws of `tab_i` and of `pick`: a table read, changed at one place and made longer; the indices of one owner, where the owners change, one
-- more comes or none is there. Each is an induction on how many indices are left. Assumes nothing.
use mathlib.Core.Path.{◌≡◌, refl, ap, ap₂, ◌∙◌}
use mathlib.Core.Bool.{cond}
use mathlib.Core.List.{List, [], ◌∷◌, ◌++◌}
use Prim.Native.Nat.{ℕ, zero, suc, ◌+◌, ◌<◌, ◌≤◌}
use native.Mathlib.Nat.{not-suc-le-zero, le_of_suc-le-suc, le_refl, add-zero}
use native.Mathlib.Omega.{arith}
use lib.Dec.{eqb}
use lib.ListN.{length, get_or, set}
use borrow.Author.Tests.{eq-eqb, ne_eqb}
use Rattle.numbers.proofs.Bytes.{by_bool}
use Rattle.columns.specs.Lists.{tab_i, pick, count_i}

-- what holds of each index from i on holds of each from the next on
pub later : {P : ℕ → Type 0} (m i : ℕ) → ((j : ℕ) → i ≤ j → j < i + suc m → P j) → (j : ℕ) → i + 1 ≤ j → j < i + 1 + m → P j
later m i h j a b = h j (omega arith) (omega arith)

module _ {A : Type 0} where
  pub length_tab : (m i : ℕ) (f : ℕ → A) → length (tab_i m i f) ≡ m
  unfolding tab_i
  length_tab zero i f = refl
  length_tab (suc m) i f = ap suc (length_tab m (i + 1) f)

  -- the function is looked at from i on, m times
  pub tab_cong : (m i : ℕ) (f g : ℕ → A) → ((j : ℕ) → i ≤ j → j < i + m → f j ≡ g j) → tab_i m i f ≡ tab_i m i g
  unfolding tab_i
  tab_cong zero i f g h = refl
  tab_cong (suc m) i f g h = ap₂ ◌∷◌ (h i (le_refl i) (omega arith)) (tab_cong m (i + 1) f g (later m i h))

  -- a function changed at k alone
  pub tab_set : (m i p k : ℕ) (f g : ℕ → A) (v : A) → k ≡ i + p → p < m → g k ≡ v → ((j : ℕ) → j < i + m → (j ≡ k → ⊥) → g j ≡ f j)
      → tab_i m i g ≡ set (tab_i m i f) p v
  unfolding tab_i
  tab_set zero i p k f g v e l a h = absurd (not-suc-le-zero l)
  tab_set (suc m) i zero k f g v e l a h =
      let z : k ≡ i = e ∙ add-zero i in
      ap₂ ◌∷◌ (rw z at a) (tab_cong m (i + 1) g f (λ j p q. h j (omega arith) (λ r. omega arith)))
  tab_set (suc m) i (suc p) k f g v e l a h =
      ap₂ ◌∷◌ (h i (omega arith) (λ r. omega arith)) (tab_set m (i + 1) p k f g v (omega arith) (le_of_suc-le-suc l) a (λ j x. h j (omega arith)))

  pub get_d_tab : (m i p k : ℕ) (f : ℕ → A) (d : A) → k ≡ i + p → p < m → get_or (tab_i m i f) p d ≡ f k
  unfolding tab_i
  get_d_tab zero i p k f d e l = absurd (not-suc-le-zero l)
  get_d_tab (suc m) i zero k f d e l = rw (e, add-zero)
  get_d_tab (suc m) i (suc p) k f d e l = get_d_tab m (i + 1) p k f d (omega arith) (le_of_suc-le-suc l)

  pub tab_snoc : (m i k : ℕ) (f : ℕ → A) → k ≡ i + m → tab_i (suc m) i f ≡ tab_i m i f ++ (f k ∷ [])
  unfolding tab_i
  tab_snoc zero i k f e = rw (e, add-zero)
  tab_snoc (suc m) i k f e = ap (λ (l : List A). f i ∷ l) (tab_snoc m (i + 1) k f (omega arith))

  -- a list is the table of its elements
  pub tab_get_d : (d : A) (xs : List A) (m i : ℕ) → m ≡ length xs → (f : ℕ → A) → ((j : ℕ) → j < m → f (i + j) ≡ get_or xs j d) → tab_i m i f ≡ xs
  unfolding tab_i
  tab_get_d d [] zero i e f h = refl
  tab_get_d d [] (suc m) i e f h = absurd (not-suc-le-zero {n = m} (omega arith))
  tab_get_d d (x ∷ xs) zero i e f h = absurd (not-suc-le-zero {n = 0} (omega arith))
  tab_get_d d (x ∷ xs) (suc m) i e f h =
      ap₂ ◌∷◌ (rw add-zero at (h 0 (omega arith)))
      (tab_get_d d xs m (i + 1) (omega arith) f (λ j l. let z : i + 1 + j ≡ i + suc j = omega arith in rw z (h (suc j) (omega arith))))

  -- ---- the indices of one owner

  pub pick_cong : (f g : ℕ → A) (q m i : ℕ) (os : List ℕ) → ((j : ℕ) → i ≤ j → j < i + m → f j ≡ g j) → pick f q m i os ≡ pick g q m i os
  unfolding pick
  pick_cong f g q zero i os h = refl
  pick_cong f g q (suc m) i [] h = refl
  pick_cong f g q (suc m) i (o ∷ os) h =
      rw (h i (le_refl i) (omega arith), pick_cong f g q m (i + 1) os (later m i h))

  -- owners past the first m do not matter
  pub pick_set : (f : ℕ → A) (q m i : ℕ) (os : List ℕ) (j v : ℕ) → m ≤ j → pick f q m i (set os j v) ≡ pick f q m i os
  unfolding pick
  pick_set f q zero i os j v l = refl
  pick_set f q (suc m) i [] j v l = refl
  pick_set f q (suc m) i (o ∷ os) zero v l = absurd (not-suc-le-zero l)
  pick_set f q (suc m) i (o ∷ os) (suc j) v l = rw (pick_set f q m (i + 1) os j v (le_of_suc-le-suc l))

  pub pick_snoc : (f : ℕ → A) (q m i k : ℕ) (os : List ℕ) → k ≡ i + m → m < length os
      → pick f q (suc m) i os ≡ pick f q m i os ++ cond (eqb (get_or os m 0) q) (f k ∷ []) []
  unfolding pick
  pick_snoc f q m i k [] e l = absurd (not-suc-le-zero l)
  pick_snoc f q zero i k (o ∷ os) e l = rw (e, add-zero)
  pick_snoc f q (suc m) i k (o ∷ os) e l =
      by_bool (eqb o q)
      (λ t. simp t (ap (λ (x : List A). f i ∷ x) (pick_snoc f q m (i + 1) k os (omega arith) (le_of_suc-le-suc l))))
      (λ t. simp t (pick_snoc f q m (i + 1) k os (omega arith) (le_of_suc-le-suc l)))

  pub pick_none : (f : ℕ → A) (q m i : ℕ) (os : List ℕ) → ((j : ℕ) → j < m → get_or os j 0 ≡ q → ⊥) → pick f q m i os ≡ []
  unfolding pick
  pick_none f q zero i os h = refl
  pick_none f q (suc m) i [] h = refl
  pick_none f q (suc m) i (o ∷ os) h =
      rw (ne_eqb o q (h 0 (omega arith))) (pick_none f q m (i + 1) os (λ j l. h (suc j) (omega arith)))

  pub pick_some : (f : ℕ → A) (q m i : ℕ) (os : List ℕ) (j : ℕ) → j < m → j < length os → get_or os j 0 ≡ q → 0 < length (pick f q m i os)
  unfolding pick
  pick_some f q zero i os j a l e = absurd (not-suc-le-zero a)
  pick_some f q (suc m) i [] j a l e = absurd (not-suc-le-zero l)
  pick_some f q (suc m) i (o ∷ os) zero a l e = rw (eq-eqb o q e) (omega arith)
  pick_some f q (suc m) i (o ∷ os) (suc j) a l e =
      let r = pick_some f q m (i + 1) os j (le_of_suc-le-suc a) (le_of_suc-le-suc l) e in
      by_bool (eqb o q) (λ c. rw c (omega arith)) (λ c. rw c r)

  -- how many one owner has
  pub length_pick : (f : ℕ → A) (q m i : ℕ) (os : List ℕ) → length (pick f q m i os) ≡ count_i (λ j o. eqb o q) m i os
  unfolding pick count_i
  length_pick f q zero i os = refl
  length_pick f q (suc m) i [] = refl
  length_pick f q (suc m) i (o ∷ os) =
      let r = length_pick f q m (i + 1) os in
      by_bool (eqb o q) (λ c. rw c (omega arith)) (λ c. rw c (omega arith))
