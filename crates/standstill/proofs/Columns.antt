-- Columns that stay as they are: laid over by what stands there, mapped to themselves, packed with every row kept. Assumes nothing.
use mathlib.Core.Path.{◌≡◌, refl, sym, ap, ap₂, ◌∙◌}
use mathlib.Core.Bool.{Bool, true, false}
use mathlib.Core.List.{List, [], ◌∷◌, ◌++◌}
use Prim.Native.Nat.{ℕ, zero, suc, ◌+◌, ◌*◌, ◌<◌, ◌≤◌}
use native.Mathlib.Nat.{le_refl, add-zero, zero-add, sub_self}
use native.Mathlib.Omega.{arith}
use lib.ListN.{length, get_or, take, drop, take-append-drop}
use lib.Seq.{length-take-le, get_or-take}
use Rattle.numbers.specs.Bytes.{zeros}
use Rattle.columns.specs.Lists.{tab_i, map_i, gather, rank}
use Rattle.columns.specs.Laid.{laid_at, packed}
use Rattle.columns.specs.Rows.{rows_of, flat, packed_rows}
use Rattle.columns.proofs.Tabs.{later, tab_get_d}
use Rattle.columns.proofs.Rows.{length_rows, flat_take}
use Rattle.rules.specs.World.{keep}

module _ {A : Type 0} where
  pub laid_same : (n : ℕ) (ys : List A) → n ≤ length ys → laid_at 0 (take n ys) ys ≡ ys
  unfolding laid_at
  laid_same n ys l = rw (zero-add, length-take-le n ys l) (take-append-drop n ys)

  pub map_same : (g : ℕ → A → A) (d : A) (m i : ℕ) (xs : List A) → ((j : ℕ) → j < m → g (i + j) (get_or xs j d) ≡ get_or xs j d) → map_i g m i xs ≡ xs
  unfolding map_i
  map_same g d zero i xs h = refl
  map_same g d (suc m) i [] h = refl
  map_same g d (suc m) i (x ∷ xs) h =
      let here : g i x ≡ x = rw add-zero at (h 0 (omega arith)) in
      ap₂ ◌∷◌ here (map_same g d m (i + 1) xs (λ j l. let z : i + 1 + j ≡ i + suc j = omega arith in rw z (h (suc j) (omega arith))))

  -- nothing of a table is kept
  pub keep_none : (t : A → Bool) (f : ℕ → A) (m i : ℕ) → ((j : ℕ) → i ≤ j → j < i + m → t (f j) ≡ false) → keep t (tab_i m i f) ≡ []
  unfolding keep tab_i
  keep_none t f zero i h = refl
  keep_none t f (suc m) i h = rw (h i (le_refl i) (omega arith)) (keep_none t f m (i + 1) (later m i h))

  gather_all : (t : ℕ → Bool) (f : ℕ → A) (m i : ℕ) → ((j : ℕ) → i ≤ j → j < i + m → t j ≡ true) → gather t f m i ≡ tab_i m i f
  unfolding gather tab_i
  gather_all t f zero i h = refl
  gather_all t f (suc m) i h = rw (h i (le_refl i) (omega arith), gather_all t f m (i + 1) (later m i h))

-- ---- every row is kept

module _ (t : ℕ → Bool) where
  pub rank_all : (n : ℕ) → ((j : ℕ) → j < n → t j ≡ true) → rank t n ≡ n
  unfolding rank
  rank_all zero h = refl
  rank_all (suc n) h = let e = rank_all n (λ j l. h j (omega arith)) in rw (h n (omega arith)) (omega arith)

  module _ (n : ℕ) (all : (j : ℕ) → j < n → t j ≡ true) where
    pub packed_all : {A : Type 0} (d : A) (xs : List A) → n ≤ length xs → packed d t n xs ≡ xs
    unfolding packed
    packed_all d xs l =
        let front : gather t (λ j. get_or xs j d) n 0 ≡ take n xs =
        gather_all t (λ j. get_or xs j d) n 0 (λ j a b. all j (omega arith))
        ∙ tab_get_d d (take n xs) n 0 (sym (length-take-le n xs l)) (λ j. get_or xs j d)
        (λ j h. ap (λ (k : ℕ). get_or xs k d) (zero-add j) ∙ sym (get_or-take n xs j d h)) in
        rw (front, rank_all n all, sub_self) (take-append-drop n xs)

    pub packed_rows_all : (bytes : List ℕ) → 32 * n ≤ length bytes → packed_rows t n bytes ≡ bytes
    unfolding packed_rows
    packed_rows_all bytes l =
        ap (λ (rs : List (List ℕ)). flat rs ++ drop (32 * n) bytes) (packed_all zeros (rows_of n bytes) (omega (arith, length_rows n bytes)))
        ∙ ap (λ (front : List ℕ). front ++ drop (32 * n) bytes) (flat_take n bytes l)
        ∙ take-append-drop (32 * n) bytes
