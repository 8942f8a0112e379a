-- Laws of packed columns beyond those of columns: what a kept cell and a kept row hold, which cells are free, and what lies behind. With
-- them, that a rank is the rank of a kept index. Assumes nothing.
use mathlib.Core.Path.{◌≡◌, refl, sym, ap, subst, ◌∙◌}
use mathlib.Core.Bool.{Bool, true, false}
use mathlib.Core.List.{List, [], ◌∷◌}
use Prim.Native.Nat.{ℕ, zero, suc, ◌+◌, ◌-◌, ◌*◌, ◌/◌, ◌%◌, ◌<◌, ◌≤◌}
use native.Mathlib.Nat.{not-suc-le-zero, zero-add, mod-lt, div-add-mod'}
use native.Mathlib.Omega.{arith}
use lib.Dec.{ltb}
use lib.ListN.{length, get_or, drop, get_or-replicate, length-drop}
use borrow.Author.Tests.{ltb-true, ltb-false}
use Rattle.numbers.specs.Bytes.{zeros}
use Rattle.numbers.proofs.Bytes.{by_bool}
use Rattle.columns.specs.Lists.{tab_i, gather, map_i, rank}
use Rattle.columns.specs.Laid.{packed}
use Rattle.columns.specs.Rows.{row_at, rows_of, flat, packed_rows}
use Rattle.columns.proofs.Laid.{drop_same, get_d_same}
use Rattle.columns.proofs.Gathers.{rank_le, length_gather, tab_gather, gather_gather}
use Rattle.columns.proofs.Packed.{drop_packed, packed_kept, packed_freed, packed_behind}
use Rattle.columns.proofs.Rows.{row_cell, get_d_rows, rows_drop, flat_rows}
use Rattle.columns.proofs.PackedRows.{rows_packed, length_packed_rows}

-- a test is looked at below i
pub rank_cong : (s t : ℕ → Bool) (i : ℕ) → ((j : ℕ) → j < i → s j ≡ t j) → rank s i ≡ rank t i
unfolding rank
rank_cong s t zero h = refl
rank_cong s t (suc i) h = rw (h i (omega arith), rank_cong s t i (λ j l. h j (omega arith)))

-- every number below the last rank is the rank of a kept index
pub rank_onto : (t : ℕ → Bool) (n k : ℕ) → k < rank t n → (j : ℕ) × (j < n) × (t j ≡ true) × (rank t j ≡ k)
unfolding rank
rank_onto t zero k l = absurd (not-suc-le-zero l)
rank_onto t (suc n) k l =
    by_bool (t n)
    (λ e. by_bool (ltb k (rank t n))
    (λ b. sooner (rank_onto t n k (ltb-true k (rank t n) b)))
    (λ b. let h = rw e at l in let y = ltb-false k (rank t n) b in (n, omega arith, e, omega arith)))
    (λ e. let h = rw e at l in sooner (rank_onto t n k (omega arith)))
  where
    sooner : (j : ℕ) × (j < n) × (t j ≡ true) × (rank t j ≡ k) → (j : ℕ) × (j < suc n) × (t j ≡ true) × (rank t j ≡ k)
    sooner q = (q.0, omega (arith, q.1), q.2, q.3)

-- ---- from the first index on: a table and a second gathering over the new places

module _ {A : Type 0} (t : ℕ → Bool) (f : ℕ → A) (n : ℕ) where
  gathered : length (gather t f n 0) ≡ rank t n
  unfolding rank
  gathered = sym (length_gather t f n 0 n (sym (zero-add n)) ∙ zero-add (length (gather t f n 0)))

  pub tab_kept : (g : ℕ → A) → ((q : ℕ) → q < n → t q ≡ true → g (rank t q) ≡ f q) → tab_i (rank t n) 0 g ≡ gather t f n 0
  unfolding rank
  tab_kept g h = ap (λ (k : ℕ). tab_i k 0 g) (sym gathered) ∙ tab_gather t f g n 0 (λ q a l. h q (omega arith))

  pub gather_kept : (s p : ℕ → Bool) (g : ℕ → A)
      → ((j : ℕ) → j < n → t j ≡ true → s (rank t j) ≡ p j)
      → ((j : ℕ) → j < n → t j ≡ true → g (rank t j) ≡ f j)
      → ((j : ℕ) → j < n → t j ≡ false → p j ≡ false)
      → gather s g (rank t n) 0 ≡ gather p f n 0
  unfolding rank
  gather_kept s p g x y z =
      ap (λ (k : ℕ). gather s g k 0) (sym gathered)
      ∙ gather_gather t f s p g n 0 (λ j a l. x j (omega arith)) (λ j a l. y j (omega arith)) (λ j a l. z j (omega arith))

-- ---- a column of numbers

-- what a map of the first m leaves behind them
pub drop_map_i : (g : ℕ → ℕ → ℕ) (m i : ℕ) (xs : List ℕ) → drop m (map_i g m i xs) ≡ drop m xs
unfolding map_i
drop_map_i g zero i xs = refl
drop_map_i g (suc m) i [] = refl
drop_map_i g (suc m) i (x ∷ xs) = drop_map_i g m (i + 1) xs

module _ (t : ℕ → Bool) (n : ℕ) (xs : List ℕ) where
  -- what holds of the first n holds of the kept
  pub packed_each : (P : ℕ → Type 0) → ((j : ℕ) → j < n → t j ≡ true → P (get_or xs j 0)) → (i : ℕ) → i < rank t n → P (get_or (packed 0 t n xs) i 0)
  packed_each P h i l =
      let q = rank_onto t n i l in
      subst (λ (k : ℕ). P (get_or (packed 0 t n xs) k 0)) q.3 (rw (packed_kept 0 t n xs q.0 q.1 q.2) (h q.0 q.1 q.2))

  -- cells that were free behind the first n are free behind the kept
  pub packed_free : (last : ℕ) → ((i : ℕ) → n ≤ i → i < last → get_or xs i 0 ≡ 0) → (i : ℕ) → rank t n ≤ i → i < last → get_or (packed 0 t n xs) i 0 ≡ 0
  packed_free last z i a l =
      by_bool (ltb i n)
      (λ b. packed_freed 0 t n xs i a (ltb-true i n b))
      (λ b. let h = ltb-false i n b in packed_behind 0 t n xs i h ∙ z i h l)

  pub packed_drop : (m : ℕ) → n ≤ m → drop m (packed 0 t n xs) ≡ drop m xs
  packed_drop m h = drop_same _ _ n m (drop_packed 0 t n xs) h

-- ---- a flat column of k rows

module _ (t : ℕ → Bool) (n k : ℕ) (bytes : List ℕ) (few : n ≤ k) (whole : length bytes ≡ 32 * k) where
  -- a row of the packed column
  row_packed : (i : ℕ) → i < k → row_at (packed_rows t n bytes) i ≡ get_or (packed zeros t n (rows_of k bytes)) i zeros
  row_packed i l = sym (get_d_rows k i (packed_rows t n bytes) zeros l) ∙ ap (λ (r : List (List ℕ)). get_or r i zeros) (rows_packed t n k bytes few whole)

  pub row_kept : (j : ℕ) → j < n → t j ≡ true → row_at (packed_rows t n bytes) (rank t j) ≡ row_at bytes j
  row_kept j l e =
      row_packed (rank t j) (omega (arith, rank_le t j))
      ∙ packed_kept zeros t n (rows_of k bytes) j l e
      ∙ get_d_rows k j bytes zeros (omega arith)

  row_freed : (i : ℕ) → rank t n ≤ i → i < n → row_at (packed_rows t n bytes) i ≡ zeros
  row_freed i a l = row_packed i (omega arith) ∙ packed_freed zeros t n (rows_of k bytes) i a l

  rows_behind : drop (32 * n) (packed_rows t n bytes) ≡ drop (32 * n) bytes
  rows_behind =
      let made = packed_rows t n bytes in
      let long : length made ≡ 32 * k = length_packed_rows t n k bytes few whole ∙ whole in
      let m = k - n in
      let e : k ≡ n + m = omega arith in
      sym (flat_rows m (drop (32 * n) made) (simp length-drop (omega arith)))
      ∙ ap flat (rows_drop n m k made e ∙ ap (drop n) (rows_packed t n k bytes few whole) ∙ drop_packed zeros t n (rows_of k bytes) ∙ sym (rows_drop n m k bytes e))
      ∙ flat_rows m (drop (32 * n) bytes) (simp length-drop (omega arith))

  pub rows_packed_drop : (m : ℕ) → 32 * n ≤ m → drop m (packed_rows t n bytes) ≡ drop m bytes
  rows_packed_drop m h = drop_same _ _ (32 * n) m rows_behind h

  -- a byte of a row that was freed
  byte_freed : (i j : ℕ) → j < 32 → rank t n ≤ i → i < n → get_or (packed_rows t n bytes) (32 * i + j) 0 ≡ 0
  unfolding zeros
  byte_freed i j b a l = sym (row_cell (packed_rows t n bytes) i j b) ∙ ap (λ (r : List ℕ). get_or r j 0) (row_freed i a l) ∙ get_or-replicate 32 j 0 0 b

  pub rows_packed_free : (last : ℕ) → ((i : ℕ) → 32 * n ≤ i → i < last → get_or bytes i 0 ≡ 0)
      → (i : ℕ) → 32 * rank t n ≤ i → i < last → get_or (packed_rows t n bytes) i 0 ≡ 0
  rows_packed_free last z i a l =
      by_bool (ltb i (32 * n))
      (λ b. let h = ltb-true i (32 * n) b in
      let e : 32 * (i / 32) + i % 32 ≡ i = omega (arith, div-add-mod' i 32) in
      let m = mod-lt i {m = 32} (omega arith) in
      subst (λ (x : ℕ). get_or (packed_rows t n bytes) x 0 ≡ 0) e (byte_freed (i / 32) (i % 32) m (omega arith) (omega arith)))
      (λ b. let h = ltb-false i (32 * n) b in get_d_same _ _ (32 * n) i rows_behind h 0 ∙ z i h l)
