-- The rules' functions on rows and slots over tables: each of `edit`, `has`, `at`, `give`, `grow`, `count_of` and `accounts_of`, of a table, is
-- a table or a cell of it. Each is an induction on how many indices are left. Assumes nothing.
use mathlib.Core.Path.{◌≡◌, refl, sym, ap, ap₂, ◌∙◌}
use mathlib.Core.List.{List, [], ◌∷◌, ◌++◌}
use mathlib.Core.Bool.{Bool, true, false, cond}
use Prim.Native.Nat.{ℕ, zero, suc, ◌+◌, ◌<◌, ◌≤◌}
use native.Mathlib.Nat.{le_refl}
use native.Mathlib.Numerals.{add-one}
use native.Mathlib.Omega.{arith}
use lib.Dec.{eqb}
use borrow.Author.Tests.{ne_eqb, eqb-true, eqb-false}
use lib.ListN.{length, get_or, take, drop}
use lib.Seq.{drop-cons}
use Rattle.rules.specs.World.{World, Row, Slot, is_nil}
use Rattle.rules.specs.Queues.{has, at, edit, give, is_in, count_of, count, accounts_of, grow}
use Rattle.columns.specs.Lists.{tab_i}
use Rattle.meaning.specs.Meaning.{Numbers, row}
use Rattle.numbers.proofs.Bytes.{by_bool}
use Rattle.columns.proofs.Tabs.{tab_cong}

module _ (ext : ℕ → Bool) (time : ℕ → ℕ) where
  abbrev W : World
  W = Numbers ext time

  -- rows whose account is their index
  module _ (p : ℕ) (q : ℕ → List ℕ) where
    pub edit_tab : (F : List ℕ → List ℕ) (q' : ℕ → List ℕ) (m i : ℕ) → ((j : ℕ) → i ≤ j → j < i + m → cond (eqb p j) (F (q j)) (q j) ≡ q' j)
        → edit W p F (tab_i m i (λ j. row ext time j (q j))) ≡ tab_i m i (λ j. row ext time j (q' j))
    unfolding edit tab_i
    edit_tab F q' zero i h = refl
    edit_tab F q' (suc m) i h = ap₂ ◌∷◌ (ap (row ext time i) (h i (le_refl i) (omega arith)))
        (edit_tab F q' m (i + 1) (λ j a b. h j (omega arith) (omega arith)))

    pub has_tab : (m i : ℕ) → i ≤ p → p < i + m → has W p (tab_i m i (λ j. row ext time j (q j))) ≡ true
    unfolding has tab_i
    has_tab zero i l h = absurd (omega arith)
    has_tab (suc m) i l h = by_bool (eqb p i) (λ e. simp e) (λ e. simp e (has_tab m (i + 1) (let n = eqb-false p i e in omega arith) (omega arith)))

    pub at_tab : (m i : ℕ) → i ≤ p → p < i + m → at W p (tab_i m i (λ j. row ext time j (q j))) ≡ q p
    unfolding at tab_i
    at_tab zero i l h = absurd (omega arith)
    at_tab (suc m) i l h = by_bool (eqb p i) (λ e. simp e (ap q (sym (eqb-true p i e))))
        (λ e. simp e (at_tab m (i + 1) (let n = eqb-false p i e in omega arith) (omega arith)))

    pub out_tab : (m i : ℕ) → i + m ≤ p → has W p (tab_i m i (λ j. row ext time j (q j))) ≡ false
    unfolding has tab_i
    out_tab zero i l = refl
    out_tab (suc m) i l = simp (ne_eqb p i (λ e. omega arith)) (out_tab m (i + 1) (omega arith))

  -- any rows
  pub at_none : (p : ℕ) (o : List (Row W)) → has W p o ≡ false → at W p o ≡ []
  unfolding has at
  at_none p [] e = refl
  at_none p (r ∷ o) e = by_bool (eqb p r.acc) (λ t. let z : ◌≡◌ {A = Bool} true false = rw t at e in absurd (Bool·absurd z))
      (λ t. simp t (at_none p o (rw t at e)))
    where
      Bool·absurd : ◌≡◌ {A = Bool} true false → ⊥
      Bool·absurd z = let y : ◌≡◌ {A = ℕ} 0 1 = cc in omega arith

  pub give_new : (p x : ℕ) (xs : List ℕ) (o : List (Row W)) → has W p o ≡ false → give W p (x ∷ xs) o ≡ o ++ (row ext time p (x ∷ xs) ∷ [])
  unfolding has give
  give_new p x xs [] e = refl
  give_new p x xs (r ∷ o) e =
      by_bool (eqb p r.acc)
      (λ t. let z : ◌≡◌ {A = Bool} true false = rw t at e in absurd (let y : ◌≡◌ {A = ℕ} 0 1 = cc in omega arith))
      (λ t. simp t (ap (λ (l : List (Row W)). r ∷ l) (give_new p x xs o (rw t at e))))

  -- rows whose account is in a column
  module _ (p : ℕ) (ps : List ℕ) where
    pub has_col : (l : ℕ → List ℕ) (m i : ℕ) → i + m ≤ length ps → has W p (tab_i m i (λ g. row ext time (get_or ps g 0) (l g)))
        ≡ is_in W p (take m (drop i ps))
    unfolding has is_in tab_i
    has_col l zero i h = refl
    has_col l (suc m) i h =
        let c : i < length ps = omega arith in
        rw (drop-cons ps i 0 c, has_col l m (i + 1) (omega arith), add-one i)

    pub at_full : (l : ℕ → List ℕ) (m i : ℕ) → ((g : ℕ) → i ≤ g → g < i + m → is_nil (l g) ≡ false)
        → has W p (tab_i m i (λ g. row ext time (get_or ps g 0) (l g))) ≡ true → is_nil (at W p (tab_i m i (λ g. row ext time (get_or ps g 0) (l g))))
        ≡ false
    unfolding has at tab_i
    at_full l zero i h e = absurd (let y : ◌≡◌ {A = ℕ} 0 1 = cc in omega arith)
    at_full l (suc m) i h e =
        by_bool (eqb p (get_or ps i 0))
        (λ t. simp t (h i (le_refl i) (omega arith)))
        (λ t. simp t (at_full l m (i + 1) (λ g a b. h g (omega arith) (omega arith)) (rw t at e)))

    pub give_col : (x : ℕ) (xs : List ℕ) (l l' : ℕ → List ℕ) (m i : ℕ)
        → ((g h : ℕ) → g < i + m → h < i + m → get_or ps g 0 ≡ get_or ps h 0 → g ≡ h)
        → ((g : ℕ) → i ≤ g → g < i + m → l' g ≡ cond (eqb p (get_or ps g 0)) (l g ++ (x ∷ xs)) (l g))
        → has W p (tab_i m i (λ g. row ext time (get_or ps g 0) (l g))) ≡ true
        → give W p (x ∷ xs) (tab_i m i (λ g. row ext time (get_or ps g 0) (l g))) ≡ tab_i m i (λ g. row ext time (get_or ps g 0) (l' g))
    unfolding has give tab_i
    give_col x xs l l' zero i o h e = absurd (let y : ◌≡◌ {A = ℕ} 0 1 = cc in omega arith)
    give_col x xs l l' (suc m) i o h e =
        by_bool (eqb p (get_or ps i 0))
        (λ t. simp (t, h i (le_refl i) (omega arith)) (ap (λ (z : List (Row W)). row ext time (get_or ps i 0) (l i ++ (x ∷ xs)) ∷ z)
        (tab_cong m (i + 1) (λ g. row ext time (get_or ps g 0) (l g)) (λ g. row ext time (get_or ps g 0) (l' g)) (λ g a b.
        ap (row ext time (get_or ps g 0)) (sym (h g (omega arith) (omega arith) ∙ rw (ne_eqb p (get_or ps g 0)
        (λ w. let u = o i g (omega arith) (omega arith) (sym (eqb-true _ _ t) ∙ w) in omega arith))))))))
        (λ t. simp (t, h i (le_refl i) (omega arith)) (ap (λ (z : List (Row W)). row ext time (get_or ps i 0) (l i) ∷ z)
        (give_col x xs l l' m (i + 1) (λ g k a b. o g k (omega arith) (omega arith)) (λ g a b. h g (omega arith) (omega arith)) (rw t at e))))

  -- slots by number
  pub grow_tab : (n : ℕ) (F : Slot W → Slot W) (s s' : ℕ → Slot W) (m i : ℕ) → ((j : ℕ) → i ≤ j → j < i + m
      → cond (eqb n (s j).number) (F (s j)) (s j) ≡ s' j)
      → grow W n F (tab_i m i s) ≡ tab_i m i s'
  unfolding grow tab_i
  grow_tab n F s s' zero i h = refl
  grow_tab n F s s' (suc m) i h = ap₂ ◌∷◌ (h i (le_refl i) (omega arith)) (grow_tab n F s s' m (i + 1) (λ j a b. h j (omega arith) (omega arith)))

  pub count_tab : (j : ℕ) (s : ℕ → Slot W) (m i : ℕ) → i ≤ j → j < i + m → ((g : ℕ) → i ≤ g → g < i + m → (s j).number ≡ (s g).number → j ≡ g)
      → count_of W (s j).number (tab_i m i s) ≡ count W (s j)
  unfolding count_of tab_i
  count_tab j s zero i l h o = absurd (omega arith)
  count_tab j s (suc m) i l h o =
      by_bool (eqb (s j).number (s i).number)
      (λ t. simp t (ap (λ x. count W (s x)) (sym (o i (le_refl i) (omega arith) (eqb-true _ _ t)))))
      (λ t. simp t (count_tab j s m (i + 1) (let n : j ≡ i → ⊥ = λ e. eqb-false _ _ t (ap (λ x. (s x).number) e) in omega arith) (omega arith)
      (λ g a b. o g (omega arith) (omega arith))))

  pub accounts_tab : (j : ℕ) (s : ℕ → Slot W) (m i : ℕ) → i ≤ j → j < i + m → ((g : ℕ) → i ≤ g → g < i + m → (s j).number ≡ (s g).number → j ≡ g)
      → accounts_of W (s j).number (tab_i m i s) ≡ (s j).accounts
  unfolding accounts_of tab_i
  accounts_tab j s zero i l h o = absurd (omega arith)
  accounts_tab j s (suc m) i l h o =
      by_bool (eqb (s j).number (s i).number)
      (λ t. simp t (ap (λ x. (s x).accounts) (sym (o i (le_refl i) (omega arith) (eqb-true _ _ t)))))
      (λ t. simp t (accounts_tab j s m (i + 1) (let n : j ≡ i → ⊥ = λ e. eqb-false _ _ t (ap (λ x. (s x).number) e) in omega arith) (omega arith)
      (λ g a b. o g (omega arith) (omega arith))))
