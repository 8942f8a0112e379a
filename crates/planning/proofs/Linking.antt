-- The loop that chains the queues, from the last row to the first: what the rows that are left make of the plan is what all of them make of it.
-- Assumes nothing.
use mathlib.Core.Path.{◌≡◌, refl}
use mathlib.Core.List.{List}
use Prim.Native.Nat.{ℕ, suc, ◌+◌, ◌-◌, ◌<◌, ◌≤◌}
use native.Mathlib.Omega.{arith}
use lib.ListN.{length, get_or, set, length-set}
use Rattle.entry.specs.Entry.{link_c}

pub record Linking (owner : List ℕ) (n : ℕ) (plan₀ plan : List ℕ) (left : ℕ) : Type 0 where
  pub within : left ≤ n
  pub long : length plan ≡ length plan₀
  pub rest : link_c owner left plan ≡ link_c owner n plan₀

pub link_start : (owner : List ℕ) (n : ℕ) (plan : List ℕ) → Linking owner n plan plan n
link_start owner n plan = record { within = omega arith; long = refl; rest = refl }

module _ {owner : List ℕ} {n : ℕ} {plan₀ plan : List ℕ} {left : ℕ} (v : Linking owner n plan₀ plan left) where
  pub link_step : 0 < left → {i p : ℕ} → i ≡ left - 1 → p ≡ get_or owner i 0
      → Linking owner n plan₀ (set (set plan (1024 + i) (get_or plan (2048 + p) 0)) (2048 + p) i) i
  unfolding link_c
  link_step l {i} {p} e f =
      let z : left ≡ suc i = omega arith in
      record {
        within = omega (arith, v.within);
        long = simp length-set v.long;
        rest = rw f (rw z at v.rest);
      }

  pub link_end : left ≤ 0 → plan ≡ link_c owner n plan₀
  unfolding link_c
  link_end l = let z : left ≡ 0 = omega arith in rw z at v.rest
