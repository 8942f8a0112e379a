-- Laws of `index_of`: it is the first index of x, and the number of rows where x is not among them. Then what the loops keep that compare
-- two rows and that search for one: the answer for the part that is left is the answer for the whole. Assumes nothing.
use mathlib.Core.Path.{◌≡◌, refl, sym, ap, ◌∙◌}
use mathlib.Core.Bool.{true, false, cond, ◌&&◌}
use mathlib.Core.List.{List, [], ◌∷◌}
use Prim.Native.Nat.{ℕ, zero, suc, ◌+◌, ◌*◌, ◌<◌, ◌≤◌}
use native.Mathlib.Nat.{not-suc-le-zero, le_of_suc-le-suc, zero-add, add-zero}
use native.Mathlib.Numerals.{add-one}
use native.Mathlib.Omega.{arith}
use lib.Dec.{eqb}
use lib.ListN.{length, get_or, drop, drop_of_length-le}
use lib.Seq.{drop-cons}
use borrow.Author.Tests.{eq-eqb, ne_eqb}
use Rattle.numbers.specs.Bytes.{eq_l}
use Rattle.numbers.proofs.Bytes.{by_bool, eq_l_true, eq_l_self, eq_l_false}
use Rattle.columns.specs.Rows.{row_at, rows_of, index_of}
use Rattle.columns.proofs.Rows.{length_row, length_rows, row_cell, get_d_rows}

module _ (x d : List ℕ) where
  pub index_le : (rs : List (List ℕ)) → index_of x rs ≤ length rs
  unfolding index_of
  index_le [] = omega arith
  index_le (r ∷ rs) = let h = index_le rs in by_bool (eq_l r x) (λ e. rw e (omega arith)) (λ e. rw e (omega arith))

  pub index_found : (rs : List (List ℕ)) → index_of x rs < length rs → get_or rs (index_of x rs) d ≡ x
  unfolding index_of
  index_found [] l = absurd (not-suc-le-zero l)
  index_found (r ∷ rs) l =
      by_bool (eq_l r x)
      (λ e. rw e (eq_l_true r x e))
      (λ e. rw e (index_found rs (le_of_suc-le-suc (rw e at l))))

  -- no earlier row is x
  pub index_first : (rs : List (List ℕ)) (k : ℕ) → k < index_of x rs → get_or rs k d ≡ x → ⊥
  unfolding index_of
  index_first [] k l e = not-suc-le-zero l
  index_first (r ∷ rs) zero l e = by_bool (eq_l r x) (λ t. not-suc-le-zero (rw t at l)) (λ f. eq_l_false r x f e)
  index_first (r ∷ rs) (suc k) l e =
      by_bool (eq_l r x) (λ t. not-suc-le-zero (rw t at l)) (λ f. index_first rs k (le_of_suc-le-suc (rw f at l)) e)

  pub index_none : (rs : List (List ℕ)) → index_of x rs ≡ length rs → (k : ℕ) → k < length rs → get_or rs k d ≡ x → ⊥
  index_none rs e k l = index_first rs k (omega arith)

  -- an index that is the first one
  pub index_is : (rs : List (List ℕ)) (i : ℕ) → i < length rs → get_or rs i d ≡ x → ((k : ℕ) → k < i → get_or rs k d ≡ x → ⊥) → index_of x rs ≡ i
  unfolding index_of
  index_is [] i l e h = absurd (not-suc-le-zero l)
  index_is (r ∷ rs) zero l e h = rw (e, eq_l_self x)
  index_is (r ∷ rs) (suc i) l e h =
      by_bool (eq_l r x)
      (λ t. absurd (h 0 (omega arith) (eq_l_true r x t)))
      (λ f. rw f (ap suc (index_is rs i (le_of_suc-le-suc l) e (λ k a. h (suc k) (omega arith)))))

-- ---- the loop that searches
pub record Searching (x bytes : List ℕ) (n i : ℕ) : Type 0 where
  pub within : i ≤ n
  pub rest : i + index_of x (drop i (rows_of n bytes)) ≡ index_of x (rows_of n bytes)

pub search_start : (x bytes : List ℕ) (n : ℕ) → Searching x bytes n 0
search_start x bytes n = record { within = omega arith; rest = zero-add (index_of x (rows_of n bytes)) }

module _ {x bytes : List ℕ} {n i : ℕ} (v : Searching x bytes n i) where
  -- the next row, and those that are left
  next : i < n → index_of x (drop i (rows_of n bytes)) ≡ cond (eq_l (row_at bytes i) x) 0 (suc (index_of x (drop (i + 1) (rows_of n bytes))))
  unfolding index_of
  next l = rw (add-one i, drop-cons (rows_of n bytes) i [] (omega (arith, length_rows n bytes)), get_d_rows n i bytes [] l)

  pub search_step : i < n → eq_l (row_at bytes i) x ≡ false → Searching x bytes n (i + 1)
  search_step l e = record { within = omega arith; rest = omega (arith, v.rest, rw e at (next l)) }

  pub search_found : i < n → eq_l (row_at bytes i) x ≡ true → i ≡ index_of x (rows_of n bytes)
  search_found l e = omega (arith, v.rest, rw e at (next l))

  pub search_end : n ≤ i → i ≡ index_of x (rows_of n bytes)
  unfolding index_of
  search_end h = rw (drop_of_length-le (rows_of n bytes) {i = i} (omega (arith, length_rows n bytes)), add-zero) at v.rest

-- ---- the loop that compares, from the last byte on
pub record Comparing (bytes x : List ℕ) (i j : ℕ) : Type 0 where
  pub within : j ≤ 32
  pub same : drop j (row_at bytes i) ≡ drop j x

module _ (bytes x : List ℕ) (i : ℕ) (fits : 32 * i + 32 ≤ length bytes) (wide : length x ≡ 32) where
  pub compare_start : Comparing bytes x i 32
  compare_start = record {
    within = omega arith;
    same = drop_of_length-le (row_at bytes i) {i = 32} (omega (arith, length_row bytes i fits)) ∙ sym (drop_of_length-le x {i = 32} (omega arith));
  }

  pub compare_step : {j k : ℕ} → Comparing bytes x i j → j ≡ k + 1 → get_or bytes (32 * i + k) 0 ≡ get_or x k 0 → Comparing bytes x i k
  compare_step {j} {k} v z e =
      let row = row_at bytes i in
      let l : k < 32 = omega (arith, v.within) in
      let rest : drop (suc k) row ≡ drop (suc k) x = rw (z, add-one k) at v.same in
      record {
        within = omega arith;
        same =
            drop-cons row k 0 (omega (arith, length_row bytes i fits))
            ∙ (rw (row_cell bytes i k l, e, rest) refl)
            ∙ sym (drop-cons x k 0 (omega arith));
      }

  pub compare_differs : {k : ℕ} → k < 32 → (get_or bytes (32 * i + k) 0 ≡ get_or x k 0 → ⊥) → false ≡ eq_l (row_at bytes i) x
  compare_differs {k} l n =
      by_bool (eq_l (row_at bytes i) x)
      (λ t. absurd (n (sym (row_cell bytes i k l) ∙ ap (λ (r : List ℕ). get_or r k 0) (eq_l_true (row_at bytes i) x t))))
      (λ f. sym f)

  pub compare_end : {j : ℕ} → Comparing bytes x i j → j ≡ 0 → true ≡ eq_l (row_at bytes i) x
  compare_end v z =
      let same : row_at bytes i ≡ x = rw z at v.same in
      rw same (sym (eq_l_self x))
