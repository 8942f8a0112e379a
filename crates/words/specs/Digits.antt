-- Rows of digits: their value, the digits of a number, and what a word and a name of 32 bytes stand for. Assumes nothing.
use Rattle.std.specs.Prelude.{◌≡◌, Bool, true, cond, ◌&&◌, List, [], ◌∷◌, ◌++◌, ℕ, zero, suc, ◌+◌, ◌-◌, ◌*◌, ◌/◌, ◌%◌, ◌^◌, ◌≤◌, Option, Some, None, ltb, leb, length, take, drop, replicate}

module _ (base nought : ℕ) where
  -- the value of a row of digits behind digits of the value v; `nought` is the byte of the digit 0
  unfoldable pub value_from : ℕ → List ℕ → ℕ
  value_from v [] = v
  value_from v (x ∷ xs) = value_from (v * base + (x - nought)) xs

  -- the last k digits of n, and `behind` them
  unfoldable pub spelled : ℕ → ℕ → List ℕ → List ℕ
  spelled zero n behind = behind
  spelled (suc k) n behind = spelled k (n / base) ((nought + n % base) ∷ behind)

-- ---- decimal

abbrev pub is_digit : ℕ → Bool
is_digit b = leb 48 b && leb b 57

unfoldable pub digits_only : List ℕ → Bool
digits_only [] = true
digits_only (b ∷ bs) = is_digit b && digits_only bs

unfoldable pub value_of : List ℕ → ℕ
value_of word = value_from 10 48 0 word

-- "one or more digits, leading zeros allowed, with a value of at most 2^64 − 1"
unfoldable pub is_number : List ℕ → Bool
is_number word = ltb 0 (length word) && (digits_only word && ltb (value_of word) (2 ^ 64))

unfoldable pub number_of : List ℕ → Option ℕ
number_of word = cond (is_number word) (Some (value_of word)) None

-- one, and one more for each time that n can be divided by ten, k times at the most
unfoldable pub places_in : ℕ → ℕ → ℕ
places_in zero n = 1
places_in (suc k) n = cond (ltb n 10) 1 (suc (places_in k (n / 10)))

-- a number below 2^64 has at most 20 digits
unfoldable pub places : ℕ → ℕ
places n = places_in 19 n

-- the digits of n, the first digit first and no zero in front
unfoldable pub decimal : ℕ → List ℕ
decimal n = spelled 10 48 (places n) n []

-- the digits of n stand at the start of `out`, and there are r of them
pub record Written (n : ℕ) (out : List ℕ) (r : ℕ) : Type 0 where
  pub within : r ≤ length out
  pub counts : r ≡ length (take r out)
  pub digits : take r out ≡ decimal n

-- ---- names

-- "big-endian in the last 8 of 32 bytes, the other 24 zero"
unfoldable pub name_of : ℕ → List ℕ
name_of n = replicate 24 0 ++ spelled 256 0 8 n []

unfoldable pub number_in : List ℕ → ℕ
number_in name = value_from 256 0 0 (drop 24 name)
