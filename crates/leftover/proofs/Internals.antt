-- The internals counted: what the loop keeps, and that there are no more than rows. Assumes nothing.
use mathlib.Core.Path.{◌≡◌}
use mathlib.Core.Bool.{Bool, cond, not}
use mathlib.Core.List.{List, [], ◌∷◌}
use Prim.Native.Nat.{ℕ, zero, suc, ◌+◌, ◌-◌, ◌<◌, ◌≤◌}
use native.Mathlib.Nat.{zero-add, sub-zero, sub-eq-zero_of_le, add-zero}
use native.Mathlib.Omega.{arith}
use lib.Dec.{eqb}
use lib.ListN.{length, get_or, drop}
use borrow.Author.Tests.{eq-eqb, ne_eqb}
use Rattle.numbers.proofs.Bytes.{by_bool}
use Rattle.columns.specs.Lists.{count_i}
use Rattle.columns.proofs.Scans.{count_step}

abbrev pub internal : ℕ → ℕ → Bool
internal i k = not (eqb k 1)

pub record Counting (kind : List ℕ) (n i count : ℕ) : Type 0 where
  pub within : i ≤ n
  pub low : count ≤ i
  pub rest : count + count_i internal (n - i) i (drop i kind) ≡ count_i internal n 0 kind

pub count_start : (kind : List ℕ) (n : ℕ) → Counting kind n 0 0
count_start kind n = record { within = omega arith; low = omega arith; rest = rw (sub-zero, zero-add) }

module _ {kind : List ℕ} {n i count : ℕ} (v : Counting kind n i count) where
  pub count_end : n ≤ i → count ≡ count_i internal n 0 kind
  unfolding count_i
  count_end h = rw (sub-eq-zero_of_le h, add-zero) at v.rest

  module _ (l : i < n) (h : n ≤ length kind) where
    step : count_i internal (n - i) i (drop i kind) ≡ cond (internal i (get_or kind i 0)) 1 0 + count_i internal (n - (i + 1)) (i + 1) (drop (i + 1) kind)
    step = count_step internal n i kind 0 l (omega arith)

    pub count_one : (get_or kind i 0 ≡ 1 → ⊥) → Counting kind n (i + 1) (count + 1)
    count_one e = record { within = omega arith; low = omega (arith, v.low); rest = omega (arith, v.rest, rw (ne_eqb _ _ e) at step) }

    pub count_other : get_or kind i 0 ≡ 1 → Counting kind n (i + 1) count
    count_other e = record { within = omega arith; low = omega (arith, v.low); rest = omega (arith, v.rest, rw (eq-eqb _ _ e) at step) }

pub count_le : (kind : List ℕ) (m i : ℕ) → count_i internal m i kind ≤ m
unfolding count_i
count_le kind zero i = omega arith
count_le [] (suc m) i = omega arith
count_le (x ∷ xs) (suc m) i = let r = count_le xs m (i + 1) in by_bool (internal i x) (λ e. rw e (omega arith)) (λ e. rw e (omega arith))
