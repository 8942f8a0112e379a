-- How many digits a number has, counted by dividing: what was counted and what is still to be counted make up the whole. Assumes nothing.
use mathlib.Core.Path.{◌≡◌, refl, sym}
use mathlib.Core.List.{List, []}
use Prim.Native.Nat.{ℕ, zero, suc, ◌+◌, ◌-◌, ◌*◌, ◌/◌, ◌^◌, ◌≤◌, ◌<◌}
use native.Mathlib.Nat.{le_antisymm}
use native.Mathlib.Omega.{arith}
use lib.Dec.{ltb}
use lib.ListN.{length, take}
use lib.Seq.{length-take-le}
use borrow.Author.Tests.{lt-ltb, le-ltb, ltb-true, ltb-false}
use Rattle.numbers.proofs.Bytes.{by_bool}
use Rattle.words.specs.Digits.{places_in, places, spelled, decimal, Written}

-- a number has a digit, and at most one more than it can be divided
pub places_low : (k n : ℕ) → 1 ≤ places_in k n
unfolding places_in
places_low zero n = omega arith
places_low (suc k) n = by_bool (ltb n 10) (λ t. rw t (omega arith)) (λ f. rw f (omega arith))

pub places_high : (k n : ℕ) → places_in k n ≤ k + 1
unfolding places_in
places_high zero n = omega arith
places_high (suc k) n = by_bool (ltb n 10) (λ t. rw t (omega arith)) (λ f. rw f (omega (arith, places_high k (n / 10))))

-- a digit alone, and a digit behind others
pub one_place : (k n : ℕ) → n < 10 → places_in k n ≡ 1
unfolding places_in
one_place zero n h = refl
one_place (suc k) n h = rw (lt-ltb n 10 h)

pub one_more : (k n : ℕ) → 10 ≤ n → places_in (suc k) n ≡ suc (places_in k (n / 10))
unfolding places_in
one_more k n h = rw (le-ltb n 10 h)

module _ (n : ℕ) where
  pub record Placing (k rest : ℕ) : Type 0 where
    pub low : 1 ≤ k
    pub high : k ≤ 20
    pub small : rest < 10 * 10 ^ (20 - k)
    pub same : k + places_in (20 - k) rest ≡ 1 + places n

  pub place_start : n < 2 ^ 64 → Placing 1 n
  unfolding places
  place_start h = record { low = omega arith; high = omega arith; small = omega arith; same = refl }

  module _ {k rest : ℕ} (v : Placing k rest) where
    more : 10 ≤ rest → k < 20
    more h =
        by_bool (ltb k 20)
        (λ t. ltb-true k 20 t)
        (λ f.
        let e : k ≡ 20 = le_antisymm v.high (ltb-false k 20 f) in
        let s : rest < 10 = rw e at v.small in
        omega arith)

    pub place_step : 10 ≤ rest → Placing (k + 1) (rest / 10)
    place_step h =
        let fewer : 20 - k ≡ suc (20 - (k + 1)) = omega (arith, more h) in
        let small : rest < 10 * 10 ^ suc (20 - (k + 1)) = rw fewer at v.small in
        record {
          low = omega arith;
          high = omega (arith, more h);
          small = omega arith;
          same = omega (arith, rw (fewer, one_more (20 - (k + 1)) rest h) at v.same);
        }

    pub place_end : rest < 10 → k ≡ places n
    place_end h = omega (arith, v.same, one_place (20 - k) rest h)

-- the digits of n written: as many as it has, at the start of a row with room for 20
pub written : (n k : ℕ) (out : List ℕ) → k ≡ places n → length out ≡ 20 → take k out ≡ spelled 10 48 k n [] → Written n out k
unfolding places decimal
written n k out e long same =
    let within : k ≤ length out = omega (arith, places_high 19 n) in
    record { within = within; counts = sym (length-take-le k out within); digits = rw (← e) same }
