-- What is written reads back: the digits of a number as that number, and the name of a number too. Assumes nothing.
use mathlib.Core.Path.{◌≡◌, refl, sym, ap, ◌∙◌}
use mathlib.Core.Bool.{true}
use mathlib.Core.List.{List, [], ◌++◌}
use Prim.Native.Nat.{ℕ, zero, suc, ◌+◌, ◌-◌, ◌*◌, ◌/◌, ◌%◌, ◌^◌, ◌<◌}
use native.Mathlib.Nat.{zero-mul, zero-add, pow-zero, pow-suc, add-sub_cancel_left, div-add-mod', div-lt_iff_lt-mul}
use native.Mathlib.Omega.{arith}
use lib.Dec.{ltb}
use lib.ListN.{length, drop, replicate}
use lib.Seq.{drop_at}
use borrow.Author.Tests.{lt-ltb, le-leb, ltb-true, ltb-false}
use Rattle.numbers.proofs.Bytes.{by_bool}
use Rattle.words.specs.Digits.{value_from, value_of, spelled, digits_only, is_number, number_of, places_in, places, decimal, name_of, number_in}
use Rattle.std.proofs.Common.{Some}
use Rattle.words.proofs.Placing.{places_low, one_place, one_more}

module _ (base nought : ℕ) where
  carried : (k v n : ℕ) → (v * base ^ k + n / base) * base + (nought + n % base - nought) ≡ v * base ^ suc k + n
  carried k v n = rw (pow-suc, add-sub_cancel_left) (omega (arith, div-add-mod' n base))

  pub value_spelled : 0 < base → (k v n : ℕ) (behind : List ℕ) → n < base ^ k
      → value_from base nought v (spelled base nought k n behind) ≡ value_from base nought (v * base ^ k + n) behind
  unfolding spelled value_from
  value_spelled some zero v n behind h =
      let same : v ≡ v * base ^ 0 + n = rw pow-zero (omega (arith, rw pow-zero at h)) in
      ap (λ (w : ℕ). value_from base nought w behind) same
  value_spelled some (suc k) v n behind h =
      value_spelled some k v (n / base) _ ((div-lt_iff_lt-mul some).1 (rw pow-suc at h))
      ∙ ap (λ (w : ℕ). value_from base nought w behind) (carried k v n)

  -- the value of all the digits of a number is the number
  pub value_back : 0 < base → (k n : ℕ) → n < base ^ k → value_from base nought 0 (spelled base nought k n []) ≡ n
  unfolding value_from
  value_back some k n h = value_spelled some k 0 n [] h ∙ rw (zero-mul, zero-add)

-- ---- decimal

-- a number has no more digits than it is said to have
pub enough : (k n : ℕ) → n < 10 * 10 ^ k → n < 10 ^ places_in k n
unfolding places_in
enough zero n h = omega arith
enough (suc k) n h =
    by_bool (ltb n 10)
    (λ t. rw (one_place (suc k) n (ltb-true n 10 t)) (omega (arith, ltb-true n 10 t)))
    (λ f. rw (one_more k n (ltb-false n 10 f)) (omega (arith, enough k (n / 10) (omega arith))))

pub all_digits : (k n : ℕ) (behind : List ℕ) → digits_only behind ≡ true → digits_only (spelled 10 48 k n behind) ≡ true
unfolding spelled digits_only
all_digits zero n behind e = e
all_digits (suc k) n behind e =
    all_digits k (n / 10) _ (rw (le-leb 48 (48 + n % 10) (omega arith), le-leb (48 + n % 10) 57 (omega arith)) e)

pub length_spelled : (base nought k n : ℕ) (behind : List ℕ) → length (spelled base nought k n behind) ≡ k + length behind
unfolding spelled
length_spelled base nought zero n behind = sym (zero-add _)
length_spelled base nought (suc k) n behind = length_spelled base nought k (n / base) _ ∙ omega arith

-- "decimal digits written" are read as the number that was written
pub decimal_back : (n : ℕ) → n < 2 ^ 64 → number_of (decimal n) ≡ Some n
unfolding number_of is_number value_of decimal places digits_only
decimal_back n h =
    let small : n < 10 ^ places_in 19 n = enough 19 n (omega arith) in
    let value = value_back 10 48 (omega arith) (places_in 19 n) n small in
    rw (value, all_digits (places_in 19 n) n [] refl, lt-ltb n (2 ^ 64) h, length_spelled 10 48 (places_in 19 n) n [], lt-ltb 0 (places_in 19 n + 0) (omega (arith, places_low 19 n)))

-- ---- names

pub name_back : (n : ℕ) → n < 2 ^ 64 → number_in (name_of n) ≡ n
unfolding number_in name_of
name_back n h =
    let last : drop 24 (replicate 24 0 ++ spelled 256 0 8 n []) ≡ spelled 256 0 8 n [] = drop_at (replicate 24 0) _ 24 refl in
    rw last (value_back 256 0 (omega arith) 8 n (omega arith))
