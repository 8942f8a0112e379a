-- The search for the k-th row of one owner, as a loop that passes the owners from the front: the answer for the rows that are left is the
-- answer for all. Assumes nothing.
use mathlib.Core.Path.{◌≡◌, refl, sym, ap, ◌∙◌}
use mathlib.Core.List.{List}
use Prim.Native.Nat.{ℕ, zero, suc, ◌+◌, ◌-◌, ◌≤◌, ◌<◌}
use native.Mathlib.Nat.{sub-zero, sub-eq-zero_of_le, le_antisymm}
use native.Mathlib.Numerals.{add-one}
use native.Mathlib.Omega.{arith}
use lib.Dec.{eqb}
use lib.ListN.{get_or, drop, length}
use lib.Seq.{drop-cons}
use borrow.Author.Tests.{eq-eqb, ne_eqb}
use Rattle.columns.specs.Lists.{pick}
use Rattle.columns.proofs.Scans.{turns}
use Rattle.queues.specs.Look.{row_of}

-- the answer of the rows from i on
abbrev rest_of : List ℕ → (n p i left : ℕ) → ℕ
rest_of owner n p i left = get_or (pick (λ i. i) p (n - i) i (drop i owner)) left n

module _ (owner : List ℕ) (n p i : ℕ) (l : i < n) (h : i < length owner) where
  other : (left : ℕ) → (get_or owner i 0 ≡ p → ⊥) → rest_of owner n p i left ≡ rest_of owner n p (i + 1) left
  unfolding pick
  other left e = rw (turns n i l, drop-cons owner i 0 h, ← add-one i, ne_eqb _ _ e)

  here : get_or owner i 0 ≡ p → rest_of owner n p i 0 ≡ i
  unfolding pick
  here e = rw (turns n i l, drop-cons owner i 0 h, eq-eqb _ _ e)

  passed : (left : ℕ) → (left ≡ 0 → ⊥) → get_or owner i 0 ≡ p → rest_of owner n p i left ≡ rest_of owner n p (i + 1) (left - 1)
  unfolding pick
  passed zero z e = absurd (z refl)
  passed (suc left) z e = let y : suc left - 1 ≡ left = omega arith in rw (turns n i l, drop-cons owner i 0 h, ← add-one i, eq-eqb _ _ e, y)

pub record Seeking (owner : List ℕ) (n p k i left : ℕ) : Type 0 where
  pub within : i ≤ n
  pub low : left ≤ k
  pub rest : rest_of owner n p i left ≡ row_of owner n p k

pub seek_start : (owner : List ℕ) (n p k : ℕ) → Seeking owner n p k 0 k
seek_start owner n p k = record { within = omega arith; low = omega arith; rest = rw sub-zero }

module _ {owner : List ℕ} {n p k i left : ℕ} (v : Seeking owner n p k i left) where
  pub seek_found : i < n → i < length owner → get_or owner i 0 ≡ p → left ≡ 0 → i ≡ row_of owner n p k
  seek_found l h e z = sym (ap (rest_of owner n p i) z ∙ here owner n p i l h e) ∙ v.rest

  pub seek_passed : i < n → i < length owner → get_or owner i 0 ≡ p → (left ≡ 0 → ⊥) → Seeking owner n p k (i + 1) (left - 1)
  seek_passed l h e z = record { within = omega arith; low = omega (arith, v.low); rest = sym (passed owner n p i l h left z e) ∙ v.rest }

  pub seek_other : i < n → i < length owner → (get_or owner i 0 ≡ p → ⊥) → Seeking owner n p k (i + 1) left
  seek_other l h e = record { within = omega arith; low = v.low; rest = sym (other owner n p i l h left e) ∙ v.rest }

  pub seek_end : n ≤ i → i ≡ row_of owner n p k
  unfolding pick
  seek_end h = le_antisymm v.within h ∙ rw (sub-eq-zero_of_le h) at v.rest
