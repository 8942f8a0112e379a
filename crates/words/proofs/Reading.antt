-- A word read as a number, digit by digit: the number that a word stands for behind digits that were read, by the next byte. Assumes nothing.
use mathlib.Core.Path.{◌≡◌, refl}
use mathlib.Core.Bool.{Bool, true, false, cond, ◌&&◌}
use mathlib.Core.List.{List, [], ◌∷◌}
use Prim.Native.Nat.{ℕ, suc, ◌+◌, ◌-◌, ◌*◌, ◌^◌, ◌≤◌, ◌<◌}
use native.Mathlib.Numerals.{add-one}
use native.Mathlib.Omega.{arith}
use lib.Dec.{ltb, leb}
use lib.ListN.{length, get_or, drop, drop_of_length-le}
use lib.Seq.{drop-cons}
use borrow.Author.Tests.{lt-ltb, le-ltb, leb-true}
use Rattle.numbers.proofs.Bytes.{by_bool, clash}
use Rattle.words.specs.Digits.{value_from, value_of, is_digit, digits_only, is_number, number_of}
use Rattle.std.proofs.Common.{Option, Some, None}

-- what the bytes s make of digits of the value v in front
unfoldable pub read_from : ℕ → List ℕ → Option ℕ
read_from v s = cond (digits_only s && ltb (value_from 10 48 v s) (2 ^ 64)) (Some (value_from 10 48 v s)) None

and_false : (b : Bool) → b && false ≡ false
and_false true = refl
and_false false = refl

-- a digit lies between both bounds
pub digit_bounds : (b : ℕ) → is_digit b ≡ true → (48 ≤ b) × (b ≤ 57)
digit_bounds b e =
    by_bool (leb 48 b)
    (λ t. (leb-true 48 b t, leb-true b 57 (rw t at e)))
    (λ f. clash false (rw f at e) refl)

-- more digits never make a number less
grows : (v : ℕ) (s : List ℕ) → v ≤ value_from 10 48 v s
unfolding value_from
grows v [] = omega arith
grows v (b ∷ s) = omega (arith, grows (v * 10 + (b - 48)) s)

module _ (word : List ℕ) where
  pub record Reading (v i : ℕ) : Type 0 where
    pub small : v < 2 ^ 64
    pub same : read_from v (drop i word) ≡ number_of word

  pub read_none : length word ≡ 0 → None ≡ number_of word
  unfolding number_of is_number
  read_none e = rw (le-ltb 0 (length word) (omega arith))

  pub read_start : (length word ≡ 0 → ⊥) → Reading 0 0
  unfolding number_of is_number value_of read_from
  read_start d = record { small = omega arith; same = rw (lt-ltb 0 (length word) (omega arith)) }

  module _ {v i : ℕ} (r : Reading v i) (l : i < length word) where
    byte : ℕ
    byte = get_or word i 0

    next : read_from v (byte ∷ drop (suc i) word) ≡ number_of word
    unfolding byte
    next = rw (drop-cons word i 0 l) at r.same

    pub read_other : is_digit (get_or word i 0) ≡ false → None ≡ number_of word
    unfolding read_from digits_only byte
    read_other e = rw e at next

    pub read_large : 2 ^ 64 ≤ v * 10 + (get_or word i 0 - 48) → None ≡ number_of word
    unfolding read_from value_from byte
    read_large h =
        let large : 2 ^ 64 ≤ value_from 10 48 (v * 10 + (get_or word i 0 - 48)) (drop (suc i) word) = omega (arith, grows (v * 10 + (get_or word i 0 - 48)) (drop (suc i) word)) in
        rw (le-ltb _ (2 ^ 64) large, and_false) at next

    pub read_step : is_digit (get_or word i 0) ≡ true → v * 10 + (get_or word i 0 - 48) < 2 ^ 64 → Reading (v * 10 + (get_or word i 0 - 48)) (i + 1)
    unfolding read_from value_from digits_only byte
    read_step e h = record { small = h; same = rw add-one (rw e at next) }

  pub read_end : {v i : ℕ} → Reading v i → length word ≤ i → Some v ≡ number_of word
  unfolding read_from value_from digits_only
  read_end {v} r l = rw (lt-ltb v (2 ^ 64) r.small) at (rw (drop_of_length-le word l) at r.same)
