-- The seats of the group's members: what the loop keeps. Assumes nothing.
use mathlib.Core.Path.{◌≡◌, refl, ap, ◌∙◌}
use mathlib.Core.List.{List}
use Prim.Native.Nat.{ℕ, ◌+◌, ◌<◌, ◌≤◌}
use native.Mathlib.Numerals.{add-one}
use native.Mathlib.Omega.{arith}
use lib.ListN.{length, get_or, set, length-set}
use Rattle.settle.specs.Copies.{seated_by}

pub record Seating (member : List ℕ) (n : ℕ) (seat₀ seat : List ℕ) (g : ℕ) : Type 0 where
  pub within : g ≤ n
  pub long : length seat ≡ length seat₀
  pub cells : seat ≡ seated_by g member seat₀

pub seat_start : (member : List ℕ) (n : ℕ) (seat : List ℕ) → Seating member n seat seat 0
unfolding seated_by
seat_start member n seat = record { within = omega arith; long = refl; cells = refl }

module _ {member : List ℕ} {n : ℕ} {seat₀ seat : List ℕ} {g : ℕ} (v : Seating member n seat₀ seat g) where
  pub seat_step : g < n → (p : ℕ) → p ≡ get_or member g 0 → Seating member n seat₀ (set seat p g) (g + 1)
  unfolding seated_by
  seat_step l p e = record {
    within = omega arith;
    long = length-set seat p g ∙ v.long;
    cells = rw (add-one, e) (ap (λ (s : List ℕ). set s (get_or member g 0) g) v.cells);
  }

  pub seat_end : n ≤ g → seat ≡ seated_by n member seat₀
  seat_end h = let e : g ≡ n = omega (arith, v.within) in v.cells ∙ ap (λ (i : ℕ). seated_by i member seat₀) e
