-- Tables and picks put one behind the other: a table cut in two, a table read from another place on, the indices of one owner among the
-- first m and among those behind them, and owners raised by a number. Assumes nothing.
use mathlib.Core.Path.{◌≡◌, refl, ap, ap₂, ◌∙◌}
use mathlib.Core.List.{List, [], ◌∷◌, ◌++◌, append-nil}
use Prim.Native.Nat.{ℕ, zero, suc, ◌+◌, ◌<◌, ◌≤◌}
use native.Mathlib.Nat.{not-suc-le-zero, le_of_suc-le-suc, add-zero, zero-add, suc-add}
use native.Mathlib.Omega.{arith}
use lib.Dec.{eqb}
use lib.ListN.{length, get_or, drop, length-drop}
use lib.Seq.{get_or-drop}
use borrow.Author.Tests.{eq-eqb, ne_eqb, eqb-true, eqb-false}
use Rattle.numbers.proofs.Bytes.{by_bool}
use Rattle.columns.specs.Lists.{tab_i, pick}
use Rattle.columns.proofs.Tabs.{pick_cong, pick_none}
use Rattle.queues.proofs.Meaning.{pick_owners}

module _ {A : Type 0} where
  -- the same table read from another place on
  pub tab_from : (m i k : ℕ) (f g : ℕ → A) → ((j : ℕ) → j < m → f (i + j) ≡ g (k + j)) → tab_i m i f ≡ tab_i m k g
  unfolding tab_i
  tab_from zero i k f g h = refl
  tab_from (suc m) i k f g h =
      ap₂ ◌∷◌ (rw (add-zero i, add-zero k) at (h 0 (omega arith)))
      (tab_from m (i + 1) (k + 1) f g
      (λ j l. let y : i + 1 + j ≡ i + suc j = omega arith in let z : k + 1 + j ≡ k + suc j = omega arith in rw (y, z) (h (suc j) (omega arith))))

  pub tab_behind : (m n i : ℕ) (f : ℕ → A) → tab_i (m + n) i f ≡ tab_i m i f ++ tab_i n (i + m) f
  unfolding tab_i
  tab_behind zero n i f = rw (zero-add n, add-zero i)
  tab_behind (suc m) n i f =
      let z : i + 1 + m ≡ i + suc m = omega arith in
      rw (suc-add m n) (ap (λ (l : List A). f i ∷ l) (tab_behind m n (i + 1) f ∙ ap (λ (k : ℕ). tab_i m (i + 1) f ++ tab_i n k f) z))

  pub pick_behind : (f : ℕ → A) (q m n i : ℕ) (os : List ℕ) → m ≤ length os → pick f q (m + n) i os ≡ pick f q m i os ++ pick f q n (i + m) (drop m os)
  unfolding pick
  pick_behind f q zero n i os l = rw (zero-add n, add-zero i)
  pick_behind f q (suc m) n i [] l = absurd (not-suc-le-zero l)
  pick_behind f q (suc m) n i (o ∷ os) l =
      let z : i + 1 + m ≡ i + suc m = omega arith in
      let ih = pick_behind f q m n (i + 1) os (le_of_suc-le-suc l) ∙ ap (λ (k : ℕ). pick f q m (i + 1) os ++ pick f q n k (drop m os)) z in
      rw (suc-add m n)
      (by_bool (eqb o q) (λ t. rw t (ap (λ (x : List A). f i ∷ x) ih)) (λ t. rw t ih))

  -- the owners raised by b, each standing for what it stood for
  pub pick_raised : (f g : ℕ → A) (b q p m i k : ℕ) (os ps : List ℕ) → p ≡ q + b → m ≤ length os → m ≤ length ps
      → ((j : ℕ) → j < m → get_or ps j 0 ≡ get_or os j 0 + b) → ((j : ℕ) → j < m → g (k + j) ≡ f (i + j)) → pick g p m k ps ≡ pick f q m i os
  unfolding pick
  pick_raised f g b q p zero i k os ps e x y h s = refl
  pick_raised f g b q p (suc m) i k [] ps e x y h s = absurd (not-suc-le-zero x)
  pick_raised f g b q p (suc m) i k (o ∷ os) [] e x y h s = absurd (not-suc-le-zero y)
  pick_raised f g b q p (suc m) i k (o ∷ os) (r ∷ ps) e x y h s =
      let first : r ≡ o + b = h 0 (omega arith) in
      let here : g k ≡ f i = rw (add-zero i, add-zero k) at (s 0 (omega arith)) in
      let ih : pick g p m (k + 1) ps ≡ pick f q m (i + 1) os =
      pick_raised f g b q p m (i + 1) (k + 1) os ps e (le_of_suc-le-suc x) (le_of_suc-le-suc y) (λ j l. h (suc j) (omega arith))
      (λ j l. let y : i + 1 + j ≡ i + suc j = omega arith in let z : k + 1 + j ≡ k + suc j = omega arith in rw (y, z) (s (suc j) (omega arith))) in
      by_bool (eqb o q)
      (λ t. let z = eqb-true o q t in rw (t, eq-eqb r p (omega arith)) (ap₂ ◌∷◌ here ih))
      (λ t. let z = eqb-false o q t in rw (t, ne_eqb r p (λ w. z (omega arith))) ih)

-- a column of n owners behind one of m, raised by a, the first's lying below a
pub record Owners (a m n : ℕ) (os fore aft : List ℕ) : Type 0 where
  pub long : m + n ≤ length os
  pub long·fore : m ≤ length fore
  pub long·aft : n ≤ length aft
  pub same : (j : ℕ) → j < m → get_or os j 0 ≡ get_or fore j 0
  pub up : (j : ℕ) → j < n → get_or os (m + j) 0 ≡ get_or aft j 0 + a
  pub low : (j : ℕ) → j < m → get_or fore j 0 < a

module _ {A : Type 0} {a m n : ℕ} {os fore aft : List ℕ} (o : Owners a m n os fore aft) (f g : ℕ → A) where
  -- what a place below a owns
  pub pick_fore : ((j : ℕ) → j < m → f j ≡ g j) → (q : ℕ) → q < a → pick f q (m + n) 0 os ≡ pick g q m 0 fore
  pick_fore same q l =
      pick_behind f q m n 0 os (omega (arith, o.long))
      ∙ ap₂ ◌++◌
      (pick_owners f q m 0 os fore (omega (arith, o.long)) o.long·fore o.same ∙ pick_cong f g q m 0 fore (λ j x y. same j (omega arith)))
      (pick_none f q n (0 + m) (drop m os) (λ j x y. omega (arith, get_or-drop m os j 0, o.up j x)))
      ∙ append-nil (pick g q m 0 fore)

  -- and what a place from a on does
  pub pick_aft : ((j : ℕ) → j < n → f (m + j) ≡ g j) → (q : ℕ) → pick f (a + q) (m + n) 0 os ≡ pick g q n 0 aft
  pick_aft same q =
      pick_behind f (a + q) m n 0 os (omega (arith, o.long))
      ∙ ap₂ ◌++◌
      (pick_none f (a + q) m 0 os (λ j x y. omega (arith, o.same j x, o.low j x)))
      (pick_raised g f a q (a + q) n 0 (0 + m) aft (drop m os) (omega arith) o.long·aft (simp length-drop (omega (arith, o.long)))
      (λ j x. get_or-drop m os j 0 ∙ o.up j x)
      (λ j x. let y : 0 + m + j ≡ m + j = omega arith in let z : 0 + j ≡ j = omega arith in rw (y, z) (same j x)))
