-- The loops that lay a column raised by a number, and the values of a function, one a number: each is the loop of columns' proofs/Lays.antt
-- over another list. Assumes nothing.
use mathlib.Core.Path.{◌≡◌, refl, sym, ap, ◌∙◌}
use mathlib.Core.List.{List, [], ◌∷◌, map}
use Prim.Native.Nat.{ℕ, zero, suc, ◌+◌, ◌<◌, ◌≤◌}
use native.Mathlib.Omega.{arith}
use lib.ListN.{length, take, set}
use lib.Seq.{take_all}
use Rattle.columns.specs.Lists.{tab_i}
use Rattle.columns.specs.Laid.{laid_at}
use Rattle.columns.proofs.Lays.{Laying, lay_step, lay_end}
use Rattle.columns.proofs.Tabs.{length_tab, get_d_tab}

pub take_map : (f : ℕ → ℕ) (n : ℕ) (xs : List ℕ) → take n (map f xs) ≡ map f (take n xs)
take_map f zero xs = refl
take_map f (suc n) [] = refl
take_map f (suc n) (x ∷ xs) = ap (λ (l : List ℕ). f x ∷ l) (take_map f n xs)

-- n values of a function, one a number
module _ (f : ℕ → ℕ) (first : ℕ) {to n : ℕ} {ys₀ ys : List ℕ} {j : ℕ} (fits : to + n ≤ length ys₀) (v : Laying (tab_i n first f) to n ys₀ ys j) where
  pub tab_step : j < n → Laying (tab_i n first f) to n ys₀ (set ys (to + j) (f (first + j))) (j + 1)
  tab_step l = lay_step v (omega (arith, length_tab n first f)) 0 fits l _ (sym (get_d_tab n first j (first + j) f 0 refl l))

  pub tab_end : n ≤ j → ys ≡ laid_at to (tab_i n first f) ys₀
  tab_end h = lay_end v (omega (arith, length_tab n first f)) h ∙ rw (take_all n (tab_i n first f) (omega (arith, length_tab n first f)))
