-- A number in the last 8 of 32 bytes: its bytes as the library writes and reads them are those of its name. Assumes nothing.
use mathlib.Core.Path.{◌≡◌, refl, sym, ap, ◌∙◌}
use mathlib.Core.List.{List, [], ◌∷◌, ◌++◌, append_assoc, append-nil}
use Prim.Native.Nat.{ℕ, zero, suc, ◌/◌, ◌%◌, ◌^◌}
use native.Mathlib.Nat.{zero-add, pow-succ', div-div-eq-div-mul}
use native.Mathlib.Omega.{arith}
use lib.ListN.{length, get_or, replicate, drop_of_length-le}
use lib.Seq.{drop-cons}
use Rattle.std.specs.Int.{w64, byte_at, bytes_high_first, from_be_bytes}
use Rattle.words.specs.Digits.{value_from, spelled, name_of, number_in}

-- a byte of n is the byte below it of n without its last
byte_next : (k n : ℕ) → byte_at (suc k) n ≡ byte_at k (n / 256)
byte_next zero n = refl
byte_next (suc k) n =
    ap (λ (x : ℕ). x % 256) (ap (λ (p : ℕ). n / p) (pow-succ' 256 (suc k)) ∙ sym (div-div-eq-div-mul n 256 (256 ^ suc k)))

last_byte : (k n : ℕ) → bytes_high_first (suc k) n ≡ bytes_high_first k (n / 256) ++ (n % 256 ∷ [])
last_byte zero n = refl
last_byte (suc k) n = λ i. byte_next k n i ∷ last_byte k n i

spelled_bytes : (k n : ℕ) (behind : List ℕ) → spelled 256 0 k n behind ≡ bytes_high_first k n ++ behind
unfolding spelled
spelled_bytes zero n behind = refl
spelled_bytes (suc k) n behind =
    spelled_bytes k (n / 256) _
    ∙ ap (λ (x : ℕ). bytes_high_first k (n / 256) ++ (x ∷ behind)) (zero-add (n % 256))
    ∙ sym (append_assoc (bytes_high_first k (n / 256)) (n % 256 ∷ []) behind)
    ∙ ap (λ (l : List ℕ). l ++ behind) (sym (last_byte k n))

-- 24 zero bytes, and the bytes of the number behind them
pub named : (n : ℕ) {last : List ℕ} → last ≡ bytes_high_first 8 n → replicate 24 0 ++ (last ++ []) ≡ name_of n
unfolding name_of
named n {last} e =
    ap (λ (l : List ℕ). replicate 24 0 ++ l) (append-nil last ∙ e ∙ sym (spelled_bytes 8 n [] ∙ append-nil (bytes_high_first 8 n)))

-- the number of the last 8 of 32 bytes
pub summed : (name : List ℕ) → length name ≡ 32 → {n : ℕ}
    → n ≡ from_be_bytes w64 (get_or name 24 0 ∷ get_or name 25 0 ∷ get_or name 26 0 ∷ get_or name 27 0 ∷ get_or name 28 0 ∷ get_or name 29 0 ∷ get_or name 30 0 ∷ get_or name 31 0 ∷ [])
    → n ≡ number_in name
unfolding number_in value_from
summed name long e =
    rw (
      drop-cons name 24 0 (omega arith),
      drop-cons name 25 0 (omega arith),
      drop-cons name 26 0 (omega arith),
      drop-cons name 27 0 (omega arith),
      drop-cons name 28 0 (omega arith),
      drop-cons name 29 0 (omega arith),
      drop-cons name 30 0 (omega arith),
      drop-cons name 31 0 (omega arith),
      drop_of_length-le name {i = 32} (omega arith),
    ) (omega (arith, e))

-- a name has 32 bytes
pub name_long : (n : ℕ) → length (name_of n) ≡ 32
unfolding name_of spelled
name_long n = refl
