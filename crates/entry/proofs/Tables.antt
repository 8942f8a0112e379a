-- The loops that lay a table over a column, one cell a turn, and the loop that gives homes out: what each keeps, over any column.
-- Assumes nothing.
use mathlib.Core.Path.{◌≡◌, sym, ap, ◌∙◌}
use mathlib.Core.Bool.{Bool, cond}
use mathlib.Core.List.{List, []}
use Prim.Native.Nat.{ℕ, ◌+◌, ◌-◌, ◌<◌, ◌≤◌}
use native.Mathlib.Nat.{zero-add, sub-zero, sub-eq-zero_of_le}
use native.Mathlib.Omega.{arith}
use lib.ListN.{length, get_or, take, set, length-set}
use lib.Seq.{take_all}
use Rattle.columns.specs.Lists.{tab_i}
use Rattle.columns.specs.Laid.{laid_at}
use Rattle.columns.proofs.Tabs.{length_tab, get_d_tab}
use Rattle.columns.proofs.Scans.{turns}
use Rattle.columns.proofs.Lays.{Laying, lay_start, lay_step, lay_end}
use Rattle.entry.specs.Entry.{housed_c}

-- j of the n cells from `at` on are laid
pub record Tabling (f : ℕ → ℕ) (at n : ℕ) (ys₀ ys : List ℕ) (j : ℕ) : Type 0 where
  pub lays : Laying (tab_i n 0 f) at n ys₀ ys j

pub table_start : (f : ℕ → ℕ) (at n : ℕ) (ys : List ℕ) → Tabling f at n ys ys 0
table_start f at n ys = record { lays = lay_start (tab_i n 0 f) at n ys }

enough : (f : ℕ → ℕ) (n : ℕ) → n ≤ length (tab_i n 0 f)
enough f n = omega (arith, length_tab n 0 f)

module _ {f : ℕ → ℕ} {at n : ℕ} {ys₀ ys : List ℕ} {j : ℕ} (v : Tabling f at n ys₀ ys j) where
  pub table_step : at + n ≤ length ys₀ → j < n → (x : ℕ) → x ≡ f j → Tabling f at n ys₀ (set ys (at + j) x) (j + 1)
  table_step fits l x e = record { lays = lay_step v.lays (enough f n) 0 fits l x (e ∙ sym (get_d_tab n 0 j j f 0 (sym (zero-add j)) l)) }

  pub table_end : n ≤ j → ys ≡ laid_at at (tab_i n 0 f) ys₀
  table_end h = lay_end v.lays (enough f n) h ∙ ap (λ (l : List ℕ). laid_at at l ys₀) (take_all n (tab_i n 0 f) (omega (arith, length_tab n 0 f)))

-- from the first cell on
pub front_step : {f : ℕ → ℕ} {n : ℕ} {ys₀ ys : List ℕ} {j : ℕ} → Tabling f 0 n ys₀ ys j
    → n ≤ length ys₀ → j < n → (x : ℕ) → x ≡ f j → Tabling f 0 n ys₀ (set ys j x) (j + 1)
front_step v fits l x e = rw zero-add at (table_step v (omega arith) l x e)

-- ---- homes

-- g of the n accounts have their homes; what the rest of the loop makes of the column is what the whole makes of it
pub record Housing (homes member : List ℕ) (n : ℕ) (home₀ home : List ℕ) (g : ℕ) : Type 0 where
  pub within : g ≤ n
  pub long : length home ≡ length home₀
  pub rest : housed_c homes member (n - g) g home ≡ housed_c homes member n 0 home₀

pub house_start : (homes member : List ℕ) (n : ℕ) (home : List ℕ) → Housing homes member n home home 0
house_start homes member n home = record {
  within = omega arith;
  long = λ i. length home;
  rest = ap (λ (m : ℕ). housed_c homes member m 0 home) (sub-zero n);
}

module _ {homes member : List ℕ} {n : ℕ} {home₀ home : List ℕ} {g : ℕ} (v : Housing homes member n home₀ home g) where
  pub house_step : g < n → (p : ℕ) → p ≡ get_or member g 0 → Housing homes member n home₀ (set home p (get_or homes g 0)) (g + 1)
  unfolding housed_c
  house_step l p e = record {
    within = omega arith;
    long = length-set home p (get_or homes g 0) ∙ v.long;
    rest = rw e (sym (ap (λ (m : ℕ). housed_c homes member m g home) (turns n g l)) ∙ v.rest);
  }

  pub house_end : n ≤ g → home ≡ housed_c homes member n 0 home₀
  unfolding housed_c
  house_end h = sym (ap (λ (m : ℕ). housed_c homes member m g home) (sub-eq-zero_of_le h)) ∙ v.rest
