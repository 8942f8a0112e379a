-- A loop that passes a column from the front, i being the next index, and writes at most the cell that it stands at. `scan g n i xs`: what
-- is passed, as it is, and then what the rest of the pass makes of the rest; a turn leaves it as it is. With it the laws of `map_i`, and the
-- turn of a loop that counts. Assumes nothing.
use mathlib.Core.Path.{◌≡◌, refl, sym, ap, ◌∙◌}
use mathlib.Core.Bool.{Bool, cond}
use mathlib.Core.List.{List, [], ◌∷◌, ◌++◌, append_assoc}
use Prim.Native.Nat.{ℕ, zero, suc, ◌+◌, ◌-◌, ◌<◌, ◌≤◌}
use native.Mathlib.Nat.{not-suc-le-zero, le_of_suc-le-suc, sub-zero, sub-eq-zero_of_le, add-zero}
use native.Mathlib.Numerals.{add-one}
use native.Mathlib.Omega.{arith}
use lib.ListN.{length, get_or, take, drop, set, take-append-drop}
use lib.Seq.{drop-cons, take-suc-set, drop-set-lt, set-get_or}
use Rattle.std.specs.List.{count_by}
use Rattle.std.proofs.lemmas.List.Sums.{sum_by-cons}
use Rattle.columns.specs.Lists.{map_i, count_i}

-- how many turns are left
pub turns : (n i : ℕ) → i < n → n - i ≡ suc (n - (i + 1))
turns n i p = omega arith

module _ {A : Type 0} where
  pub length_map_i : (g : ℕ → A → A) (m i : ℕ) (xs : List A) → length (map_i g m i xs) ≡ length xs
  unfolding map_i
  length_map_i g zero i xs = refl
  length_map_i g (suc m) i [] = refl
  length_map_i g (suc m) i (x ∷ xs) = ap suc (length_map_i g m (i + 1) xs)

  pub get_d_map_i : (g : ℕ → A → A) (d : A) (m i j k : ℕ) (xs : List A) → k ≡ i + j → j < m → j < length xs → get_or (map_i g m i xs) j d ≡ g k (get_or xs j d)
  unfolding map_i
  get_d_map_i g d zero i j k xs e a l = absurd (not-suc-le-zero a)
  get_d_map_i g d (suc m) i j k [] e a l = absurd (not-suc-le-zero l)
  get_d_map_i g d (suc m) i zero k (x ∷ xs) e a l = rw (e, add-zero)
  get_d_map_i g d (suc m) i (suc j) k (x ∷ xs) e a l = get_d_map_i g d m (i + 1) j k xs (omega arith) (le_of_suc-le-suc a) (le_of_suc-le-suc l)

  -- what is not among the first m stays
  pub map_front : (g : ℕ → A → A) (m i : ℕ) (xs : List A) → map_i g m i (take m xs) ++ drop m xs ≡ map_i g m i xs
  unfolding map_i
  map_front g zero i xs = refl
  map_front g (suc m) i [] = refl
  map_front g (suc m) i (x ∷ xs) = ap (λ (l : List A). g i x ∷ l) (map_front g m (i + 1) xs)

  abbrev pub scan : (ℕ → A → A) → ℕ → ℕ → List A → List A
  scan g n i xs = take i xs ++ map_i g (n - i) i (drop i xs)

  -- one more passed: the store of v at i
  pub passed : (xs : List A) (i : ℕ) (v : A) (r : List A) → i < length xs → take i xs ++ (v ∷ r) ≡ take (i + 1) (set xs i v) ++ r
  passed xs i v r p = rw (add-one, take-suc-set xs i v p, append_assoc)

  pub rest : (xs : List A) (i : ℕ) (v : A) → drop (i + 1) (set xs i v) ≡ drop (i + 1) xs
  rest xs i v = drop-set-lt (i + 1) xs i v (omega arith)

  module _ (g : ℕ → A → A) (n i : ℕ) (xs : List A) where
    pub scan_start : scan g n 0 xs ≡ map_i g n 0 xs
    scan_start = rw sub-zero

    pub scan_end : n ≤ i → scan g n i xs ≡ xs
    unfolding map_i
    scan_end p = rw (sub-eq-zero_of_le p, take-append-drop)

    module _ (p : i < n) (l : i < length xs) where
      pub scan_store : (d v : A) → g i (get_or xs i d) ≡ v → scan g n (i + 1) (set xs i v) ≡ scan g n i xs
      unfolding map_i
      scan_store d v e = sym (rw (turns n i p, drop-cons xs i d l, ← add-one i, e, passed xs i v _ l, ← rest xs i v))

      pub scan_pass : (d : A) → g i (get_or xs i d) ≡ get_or xs i d → scan g n (i + 1) xs ≡ scan g n i xs
      scan_pass d e = ap (scan g n (i + 1)) (sym (set-get_or xs i d)) ∙ scan_store d (get_or xs i d) e

  -- one more counted
  pub count_step : (h : ℕ → A → Bool) (n i : ℕ) (xs : List A) (d : A) → i < n → i < length xs
      → count_i h (n - i) i (drop i xs) ≡ cond (h i (get_or xs i d)) 1 0 + count_i h (n - (i + 1)) (i + 1) (drop (i + 1) xs)
  unfolding count_i
  count_step h n i xs d p l = rw (turns n i p, drop-cons xs i d l, ← add-one i)

  -- a test of the element alone is counted over the front, as the library counts
  pub count_front : (p : A → Bool) (n i : ℕ) (xs : List A) → count_i (λ j x. p x) n i xs ≡ count_by p (take n xs)
  unfolding count_i
  count_front p zero i xs = refl
  count_front p (suc n) i [] = refl
  count_front p (suc n) i (x ∷ xs) =
      ap (λ (m : ℕ). cond (p x) 1 0 + m) (count_front p n (i + 1) xs) ∙ sym (sum_by-cons (λ y. cond (p y) 1 0) x (take n xs))
