-- What a loop keeps that passes a column from the front and writes each cell at most once: in the end it is the mapped column. Assumes
-- nothing.
use mathlib.Core.Path.{◌≡◌, refl, sym, ◌∙◌}
use mathlib.Core.List.{List}
use Prim.Native.Nat.{ℕ, ◌+◌, ◌<◌, ◌≤◌}
use native.Mathlib.Omega.{arith}
use lib.ListN.{length, get_or, set, length-set}
use Rattle.columns.specs.Lists.{map_i}
use Rattle.columns.proofs.Scans.{scan, scan_start, scan_end, scan_store, scan_pass}

pub record Passing (g : ℕ → ℕ → ℕ) (n : ℕ) (xs₀ xs : List ℕ) (i : ℕ) : Type 0 where
  pub within : i ≤ n
  pub long : length xs ≡ length xs₀
  pub rest : scan g n i xs ≡ map_i g n 0 xs₀

pub pass_start : (g : ℕ → ℕ → ℕ) (n : ℕ) (xs : List ℕ) → Passing g n xs xs 0
pass_start g n xs = record { within = omega arith; long = refl; rest = scan_start g n 0 xs }

module _ {g : ℕ → ℕ → ℕ} {n : ℕ} {xs₀ xs : List ℕ} {i : ℕ} (v : Passing g n xs₀ xs i) where
  pub pass_store : i < n → n ≤ length xs₀ → (x : ℕ) → g i (get_or xs i 0) ≡ x → Passing g n xs₀ (set xs i x) (i + 1)
  pass_store l h x e = record {
    within = omega arith;
    long = length-set xs i x ∙ v.long;
    rest = scan_store g n i xs l (omega (arith, v.long)) 0 x e ∙ v.rest;
  }

  pub pass_skip : i < n → n ≤ length xs₀ → g i (get_or xs i 0) ≡ get_or xs i 0 → Passing g n xs₀ xs (i + 1)
  pass_skip l h e = record { within = omega arith; long = v.long; rest = scan_pass g n i xs l (omega (arith, v.long)) 0 e ∙ v.rest }

  pub pass_end : n ≤ i → xs ≡ map_i g n 0 xs₀
  pass_end h = sym (scan_end g n i xs h) ∙ v.rest
