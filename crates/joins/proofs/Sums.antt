-- The loop that counts slots: the sums of two columns, cell by cell, laid over an array of zeros (laying's proofs/Raised.antt). Assumes nothing.
use mathlib.Core.Path.{◌≡◌, sym, ap, ◌∙◌}
use mathlib.Core.List.{List}
use Prim.Native.Nat.{ℕ, ◌+◌, ◌<◌, ◌≤◌}
use native.Mathlib.Nat.{zero-add}
use native.Mathlib.Omega.{arith}
use lib.ListN.{length, get_or, set}
use Rattle.columns.specs.Lists.{tab_i}
use Rattle.columns.proofs.Laid.{get_d_laid_in}
use Rattle.columns.proofs.Lays.{Laying}
use Rattle.columns.proofs.Tabs.{length_tab, get_d_tab}
use Rattle.laying.proofs.Raised.{tab_step, tab_end}
use Rattle.joins.specs.Laying.{Countable}

-- the sums of two columns, cell by cell, laid over an array of 64
module _ {n : ℕ} {ints exts ys₀ ys : List ℕ} {j : ℕ} (may : Countable n ints exts) (wide : length ys₀ ≡ 64)
    (v : Laying (tab_i n 0 (λ k. get_or ints k 0 + get_or exts k 0)) 0 n ys₀ ys j) where
  abbrev sums : ℕ → ℕ
  sums k = get_or ints k 0 + get_or exts k 0

  fits : 0 + n ≤ length ys₀
  fits = omega (arith, may.few)

  pub sum_step : j < n → Laying (tab_i n 0 (λ k. get_or ints k 0 + get_or exts k 0)) 0 n ys₀ (set ys j (get_or ints j 0 + get_or exts j 0)) (j + 1)
  sum_step l = rw zero-add at (tab_step sums 0 fits v l)

  pub sum_end : n ≤ j → (length ys ≡ 64) × ((i : ℕ) → i < n → get_or ys i 0 ≡ get_or ints i 0 + get_or exts i 0)
  sum_end h =
      let size = length_tab n 0 sums in (
        v.long ∙ wide,
        λ i l.
            ap (λ (l : List ℕ). get_or l i 0) (tab_end sums 0 fits v h)
            ∙ (rw zero-add at (get_d_laid_in 0 (tab_i n 0 sums) ys₀ (omega (arith, fits)) i 0 (omega arith)))
            ∙ get_d_tab n 0 i i sums 0 (sym (zero-add i)) l,
      )
