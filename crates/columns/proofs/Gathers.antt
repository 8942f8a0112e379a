-- Laws of `gather` and `rank`. A kept index goes to its rank: `gather_at` reads the gathered list there, and `tab_gather` and
-- `gather_gather` read a table and a second gathering off the new places. Assumes nothing.
use mathlib.Core.Path.{◌≡◌, refl, ap, ap₂}
use mathlib.Core.Bool.{Bool, true, false}
use mathlib.Core.List.{List, ◌∷◌}
use Prim.Native.Nat.{ℕ, zero, suc, ◌+◌, ◌-◌, ◌<◌, ◌≤◌}
use native.Mathlib.Nat.{not-suc-le-zero, le_refl, add-zero}
use native.Mathlib.Numerals.{add-one}
use native.Mathlib.Omega.{arith}
use lib.Dec.{eqb, ltb}
use lib.ListN.{length, get_or, drop}
use lib.Seq.{drop-cons}
use borrow.Author.Tests.{eq-eqb, ne_eqb, eqb-true, eqb-false, ltb-true, ltb-false}
use Rattle.numbers.proofs.Bytes.{by_bool}
use Rattle.columns.specs.Lists.{tab_i, pick, gather, rank}
use Rattle.columns.proofs.Tabs.{later}

module _ (t : ℕ → Bool) where
  pub rank_kept : (i : ℕ) → t i ≡ true → rank t (i + 1) ≡ rank t i + 1
  unfolding rank
  rank_kept i e = rw (add-one i, e)

  pub rank_left : (i : ℕ) → t i ≡ false → rank t (i + 1) ≡ rank t i
  unfolding rank
  rank_left i e = rw (add-one i, e, add-zero)

  -- at most all are kept
  pub rank_le : (i : ℕ) → rank t i ≤ i
  unfolding rank
  rank_le zero = omega arith
  rank_le (suc i) = let h = rank_le i in by_bool (t i) (λ e. rw e (omega arith)) (λ e. rw e (omega arith))

  pub rank_mono : (i j : ℕ) → i ≤ j → rank t i ≤ rank t j
  rank_mono i j l = let e : j ≡ i + (j - i) = omega arith in rw e (grows (j - i))
    where
      grows : (m : ℕ) → rank t i ≤ rank t (i + m)
      grows zero = rw add-zero (le_refl (rank t i))
      grows (suc m) =
          let e : i + suc m ≡ (i + m) + 1 = omega arith in
          let h = grows m in
          by_bool (t (i + m)) (λ b. rw (e, rank_kept (i + m) b) (omega arith)) (λ b. rw (e, rank_left (i + m) b) h)

  -- kept indices have different ranks
  pub rank_less : (p q : ℕ) → t p ≡ true → p < q → rank t p < rank t q
  rank_less p q e l = omega (arith, rank_kept p e, rank_mono (p + 1) q (omega arith))

  pub rank_eqb : (p q : ℕ) → t p ≡ true → t q ≡ true → eqb (rank t p) (rank t q) ≡ eqb p q
  rank_eqb p q a b =
      by_bool (eqb p q)
      (λ e. rw (e, eqb-true p q e) (eq-eqb (rank t q) (rank t q) refl))
      (λ e. rw e (ne_eqb (rank t p) (rank t q) (apart (eqb-false p q e))))
    where
      apart : (p ≡ q → ⊥) → rank t p ≡ rank t q → ⊥
      apart n r =
          by_bool (ltb p q)
          (λ l. omega (arith, rank_less p q a (ltb-true p q l)))
          (λ l. omega (arith, rank_less q p b (let y = ltb-false p q l in omega arith)))

  module _ {A : Type 0} (f : ℕ → A) where
    pub length_gather : (m i k : ℕ) → k ≡ i + m → rank t k ≡ rank t i + length (gather t f m i)
    unfolding gather
    length_gather zero i k e = rw e (simp add-zero)
    length_gather (suc m) i k e =
        let h = length_gather m (i + 1) k (omega arith) in
        by_bool (t i) (λ b. rw b (omega (arith, rank_kept i b))) (λ b. rw b (omega (arith, rank_left i b)))

    -- test and function are looked at from i on, m times
    pub gather_cong : (s : ℕ → Bool) (g : ℕ → A) (m i : ℕ) → ((j : ℕ) → i ≤ j → j < i + m → (s j ≡ t j) × (g j ≡ f j))
        → gather s g m i ≡ gather t f m i
    unfolding gather
    gather_cong s g zero i h = refl
    gather_cong s g (suc m) i h =
        let e = h i (le_refl i) (omega arith) in
        rw (e.0, e.1, gather_cong s g m (i + 1) (later m i h))

    -- the gathered list at the rank of q
    pub gather_at : (d : A) (m i q k : ℕ) → i ≤ q → q < i + m → t q ≡ true → rank t q ≡ rank t i + k → get_or (gather t f m i) k d ≡ f q
    unfolding gather
    gather_at d zero i q k a l e r = absurd (not-suc-le-zero {n = 0} (omega arith))
    gather_at d (suc m) i q k a l e r =
        by_bool (eqb i q)
        (λ b. first (eqb-true i q b) k r)
        (λ b. let x : i < q = let n = eqb-false i q b in omega arith in
        by_bool (t i)
        (λ c. kept c (rank_less i q c x) (λ k r. gather_at d m (i + 1) q k (omega arith) (omega arith) e r) k r)
        (λ c. rw c (gather_at d m (i + 1) q k (omega arith) (omega arith) e (omega (arith, rank_left i c)))))
      where
        first : i ≡ q → (k : ℕ) → rank t q ≡ rank t i + k → get_or (gather t f (suc m) i) k d ≡ f q
        first b zero r = rw (b, e)
        first b (suc k) r = absurd (not-suc-le-zero {n = 0} (let h = ap (rank t) b in omega arith))

        kept : t i ≡ true → rank t i < rank t q → ((k : ℕ) → rank t q ≡ rank t (i + 1) + k → get_or (gather t f m (i + 1)) k d ≡ f q)
            → (k : ℕ) → rank t q ≡ rank t i + k → get_or (gather t f (suc m) i) k d ≡ f q
        kept c h ih zero r = absurd (not-suc-le-zero {n = 0} (omega arith))
        kept c h ih (suc k) r = rw c (ih k (omega (arith, rank_kept i c)))

    -- a table over the new places is what was gathered
    pub tab_gather : (g : ℕ → A) (m i : ℕ) → ((q : ℕ) → i ≤ q → q < i + m → t q ≡ true → g (rank t q) ≡ f q)
        → tab_i (length (gather t f m i)) (rank t i) g ≡ gather t f m i
    unfolding tab_i gather
    tab_gather g zero i h = refl
    tab_gather g (suc m) i h =
        let ih = tab_gather g m (i + 1) (later m i h) in
        by_bool (t i)
        (λ c. rw c (ap₂ ◌∷◌ (h i (le_refl i) (omega arith) c) (rw (rank_kept i c) at ih)))
        (λ c. rw c (rw (rank_left i c) at ih))

    -- and what a second test gathers of the new places is what it gathers of the old ones
    pub gather_gather : (s p : ℕ → Bool) (g : ℕ → A) (m i : ℕ)
        → ((j : ℕ) → i ≤ j → j < i + m → t j ≡ true → s (rank t j) ≡ p j)
        → ((j : ℕ) → i ≤ j → j < i + m → t j ≡ true → g (rank t j) ≡ f j)
        → ((j : ℕ) → i ≤ j → j < i + m → t j ≡ false → p j ≡ false)
        → gather s g (length (gather t f m i)) (rank t i) ≡ gather p f m i
    unfolding gather
    gather_gather s p g zero i a b n = refl
    gather_gather s p g (suc m) i a b n =
        let ih = gather_gather s p g m (i + 1) (later m i a) (later m i b) (later m i n) in
        by_bool (t i)
        (λ c. rw (c, a i (le_refl i) (omega arith) c, b i (le_refl i) (omega arith) c, rw (rank_kept i c) at ih))
        (λ c. rw (c, n i (le_refl i) (omega arith) c) (rw (rank_left i c) at ih))

module _ {A : Type 0} where
  -- the queue of q, as a gathering
  pub pick_gather : (f : ℕ → A) (q m i : ℕ) (os : List ℕ) → i + m ≤ length os → pick f q m i (drop i os) ≡ gather (λ j. eqb (get_or os j 0) q) f m i
  unfolding pick gather
  pick_gather f q zero i os l = refl
  pick_gather f q (suc m) i os l =
      let ih = pick_gather f q m (i + 1) os (omega arith) in
      rw (drop-cons os i 0 (omega arith), ← add-one i, ih)
