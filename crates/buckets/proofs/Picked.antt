-- Slot numbers of a column picked by a test on their index: one more, how many, which are among them. No number stands twice in the column,
-- so a number is not among those picked before it, and a bucket that lists none but these numbers, none twice, has room for each.
-- Assumes nothing.
use mathlib.Core.Path.{◌≡◌, refl, sym, ap, ◌∙◌, subst}
use mathlib.Core.Bool.{Bool, true, false, cond, not}
use mathlib.Core.Logic.{inl, inr}
use mathlib.Core.List.{List, [], ◌∷◌, ◌++◌}
use Prim.Native.Nat.{ℕ, zero, suc, ◌+◌, ◌-◌, ◌<◌, ◌≤◌}
use native.Mathlib.Nat.{not-suc-le-zero, le_of_suc-le-suc, add-zero, zero-add}
use native.Mathlib.Numerals.{add-one}
use native.Mathlib.Omega.{arith}
use lib.Dec.{eqb}
use lib.ListN.{length, get_or, take, drop}
use lib.Seq.{length-take-le, drop-cons, get_or-take, take-add}
use borrow.Author.Tests.{eq-eqb, ne_eqb, eqb-true, eqb-false}
use Rattle.rules.specs.World.{keep, is_member}
use Rattle.rules.specs.Demand.{OnceN}
use Rattle.demands.proofs.Rows.{left, right, or_cases}
use Rattle.demands.proofs.Slots.{is_member_append}
use Rattle.demands.proofs.Sound.{keep_member}
use Rattle.demands.proofs.Fits.{length_keep}
use Rattle.numbers.proofs.Bytes.{by_bool, clash}
use Rattle.columns.specs.Lists.{gather}
use Rattle.buckets.proofs.Entries.{other}

-- ---- what a test picks

module _ (t : ℕ → Bool) (f : ℕ → ℕ) where
  last_picked : (m i k : ℕ) → k ≡ i + m → gather t f (suc m) i ≡ gather t f m i ++ cond (t k) (f k ∷ []) []
  unfolding gather
  last_picked zero i k e = rw (e, add-zero)
  last_picked (suc m) i k e =
      let ih = last_picked m (i + 1) k (omega arith) in
      by_bool (t i) (λ c. rw c (ap (λ (l : List ℕ). f i ∷ l) ih)) (λ c. rw c ih)

  pub picked_next : (i : ℕ) → gather t f (i + 1) 0 ≡ gather t f i 0 ++ cond (t i) (f i ∷ []) []
  picked_next i = ap (λ (m : ℕ). gather t f m 0) (add-one i) ∙ last_picked i 0 i (sym (zero-add i))

  pub few_picked : (m i : ℕ) → length (gather t f m i) ≤ m
  unfolding gather
  few_picked zero i = omega arith
  few_picked (suc m) i = let h = few_picked m (i + 1) in by_bool (t i) (λ c. rw c (omega arith)) (λ c. rw c (omega arith))

  pub not_picked : (x m i : ℕ) → ((j : ℕ) → j < i + m → f j ≡ x → ⊥) → is_member x (gather t f m i) ≡ false
  unfolding gather is_member
  not_picked x zero i h = refl
  not_picked x (suc m) i h =
      let ih = not_picked x m (i + 1) (λ j l. h j (omega arith)) in
      by_bool (t i) (λ c. rw (c, ne_eqb x (f i) (λ e. h i (omega arith) (sym e))) ih) (λ c. rw c ih)

-- what is picked of a column stands in it
picked_among : (t : ℕ → Bool) (xs : List ℕ) (x m i : ℕ) → i + m ≤ length xs
    → is_member x (gather t (λ j. get_or xs j 0) m i) ≡ true → is_member x (take m (drop i xs)) ≡ true
unfolding gather is_member
picked_among t xs x zero i l h = h
picked_among t xs x (suc m) i l h =
    let ih = picked_among t xs x m (i + 1) (omega arith) in
    let e = eqb x (get_or xs i 0) in
    rw (drop-cons xs i 0 (omega arith), ← add-one i)
    (by_bool (t i)
    (λ c. elim (or_cases e _ (rw c at h)) [ inl a ↦ rw a | inr a ↦ right e (ih a) ])
    (λ c. right e (ih (rw c at h))))

pub picked_in : (t : ℕ → Bool) (xs : List ℕ) (x i n : ℕ) → i ≤ n → n ≤ length xs
    → is_member x (gather t (λ j. get_or xs j 0) i 0) ≡ true → is_member x (take n xs) ≡ true
picked_in t xs x i n a l h =
    let z : n ≡ i + (n - i) = omega arith in
    ap (λ (k : ℕ). is_member x (take k xs)) z
    ∙ ap (is_member x) (take-add i (n - i) xs)
    ∙ is_member_append x (take i xs) (take (n - i) (drop i xs))
    ∙ left (is_member x (take i xs)) _ (picked_among t xs x i 0 (omega arith) h)

-- ---- no number twice

member_at : (xs : List ℕ) (k : ℕ) → k < length xs → is_member (get_or xs k 0) xs ≡ true
unfolding is_member
member_at [] k l = absurd (not-suc-le-zero l)
member_at (x ∷ xs) zero l = rw (eq-eqb x x refl)
member_at (x ∷ xs) (suc k) l = right (eqb (get_or xs k 0) x) (member_at xs k (le_of_suc-le-suc l))

apart : (xs : List ℕ) (j k : ℕ) → OnceN xs → j < k → k < length xs → get_or xs j 0 ≡ get_or xs k 0 → ⊥
apart [] j k o a l e = absurd (not-suc-le-zero l)
apart (x ∷ xs) j zero o a l e = absurd (not-suc-le-zero a)
apart (x ∷ xs) zero (suc k) o a l e = clash (is_member x xs) (ap (λ (y : ℕ). is_member y xs) e ∙ member_at xs k (le_of_suc-le-suc l)) o.0
apart (x ∷ xs) (suc j) (suc k) o a l e = apart xs j k o.1 (le_of_suc-le-suc a) (le_of_suc-le-suc l) e

module _ (xs : List ℕ) (n : ℕ) (once : OnceN (take n xs)) (long : n ≤ length xs) where
  pub numbers_apart : (j k : ℕ) → j < k → k < n → get_or xs j 0 ≡ get_or xs k 0 → ⊥
  numbers_apart j k a l e =
      apart (take n xs) j k once a (omega (arith, length-take-le n xs long)) (get_or-take n xs j 0 (omega arith) ∙ e ∙ sym (get_or-take n xs k 0 l))

  pub number_among : (k : ℕ) → k < n → is_member (get_or xs k 0) (take n xs) ≡ true
  number_among k l =
      ap (λ (x : ℕ). is_member x (take n xs)) (sym (get_or-take n xs k 0 l)) ∙ member_at (take n xs) k (omega (arith, length-take-le n xs long))

-- ---- a list without repeats is no longer than one that has all its numbers

fewer : (x : ℕ) (ys : List ℕ) → is_member x ys ≡ true → length (keep (other x) ys) < length ys
unfolding keep is_member
fewer x [] h = clash false h refl
fewer x (y ∷ ys) h =
    by_bool (eqb x y)
    (λ e. rw (eq-eqb y x (sym (eqb-true x y e))) (omega (arith, length_keep (other x) ys)))
    (λ e. rw (ne_eqb y x (λ d. eqb-false x y e (sym d))) (let ih = fewer x ys (rw e at h) in omega arith))

pub no_longer : (xs ys : List ℕ) → OnceN xs → ((m : ℕ) → is_member m xs ≡ true → is_member m ys ≡ true) → length xs ≤ length ys
unfolding is_member
no_longer [] ys o h = omega arith
no_longer (x ∷ xs) ys o h =
    let less = fewer x ys (h x (rw (eq-eqb x x refl))) in
    let ih = no_longer xs (keep (other x) ys) o.1
    (λ m i. keep_member (other x) m ys (ap not (ne_eqb m x (λ e. clash (is_member x xs) (subst (λ (y : ℕ). is_member y xs ≡ true) e i) o.0))) (h m (right (eqb m x) i))) in
    omega arith
