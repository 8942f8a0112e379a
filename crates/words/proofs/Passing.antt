-- A loop that passes over the bytes of a line that a test lets pass. It keeps what is left equal to what was asked. Assumes nothing.
use mathlib.Core.Path.{◌≡◌, refl, sym, ap, ◌∙◌}
use mathlib.Core.Bool.{Bool, true, false, cond}
use mathlib.Core.List.{List}
use Prim.Native.Nat.{ℕ, suc, ◌+◌, ◌≤◌, ◌<◌, min}
use native.Mathlib.Numerals.{add-one}
use native.Mathlib.Nat.{min-eq_left, min-eq_right, add-zero}
use native.Mathlib.Omega.{arith}
use lib.ListN.{length, get_or, drop, drop_of_length-le}
use lib.Seq.{drop-cons}
use Rattle.words.specs.Cut.{leading, Leads}

module _ (test : ℕ → Bool) (from : ℕ) (s : List ℕ) where
  pub record Passing (i : ℕ) : Type 0 where
    pub onward : from ≤ i
    pub same : min from (length s) + leading test (drop from s) ≡ min i (length s) + leading test (drop i s)

  pub pass_start : Passing from
  pass_start = record { onward = omega arith; same = refl }

  module _ {i : ℕ} (v : Passing i) where
    here : i < length s → (b : Bool) → test (get_or s i 0) ≡ b → leading test (drop i s) ≡ cond b (suc (leading test (drop (suc i) s))) 0
    unfolding leading
    here l b e = ap (leading test) (drop-cons s i 0 l) ∙ rw e

    pub pass_step : i < length s → test (get_or s i 0) ≡ true → Passing (i + 1)
    pass_step l e =
        let now : min i (length s) ≡ i = min-eq_left (omega arith) in
        let later : min (i + 1) (length s) ≡ i + 1 = min-eq_left (omega arith) in
        record {
          onward = omega (arith, v.onward);
          same = v.same ∙ rw (now, later, here l true e, add-one) (omega arith);
        }

    pub pass_found : i < length s → test (get_or s i 0) ≡ false → Leads from s (leading test (drop from s)) i
    pass_found l e =
        let now : min i (length s) ≡ i = min-eq_left (omega arith) in
        record { exactly = sym (v.same ∙ rw (now, here l false e, add-zero)); onward = omega (arith, v.onward); within = omega arith }

    pub pass_end : length s ≤ i → Leads from s (leading test (drop from s)) (length s)
    unfolding leading
    pass_end l =
        let now : min i (length s) ≡ length s = min-eq_right l in
        record { exactly = sym (v.same ∙ rw (now, drop_of_length-le s l, add-zero)); onward = omega arith; within = omega arith }
