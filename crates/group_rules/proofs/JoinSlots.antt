-- The slots of a join: the left's as they were, and behind them the right's under new numbers. Assumes nothing.
use mathlib.Core.Path.{◌≡◌, refl, ap, ap₂, ◌∙◌}
use mathlib.Core.List.{List, ◌∷◌, ◌++◌}
use Prim.Native.Nat.{ℕ, zero, suc, ◌+◌, ◌<◌}
use native.Mathlib.Nat.{zero-add, add-zero}
use native.Mathlib.Omega.{arith}
use Rattle.columns.specs.Lists.{tab_i, pick}
use Rattle.columns.specs.Rows.{row_at}
use Rattle.columns.proofs.Tabs.{tab_cong, get_d_tab}
use Rattle.rules.specs.World.{World, Slot}
use Rattle.rules.specs.Fill.{renumbered}
use Rattle.message.specs.Real.{Real}
use Rattle.slots.specs.Table.{Table, count}
use Rattle.slots.specs.Meant.{slot_in, slots_of}
use Rattle.slots.specs.Join.{next_t}
use Rattle.group_rules.proofs.Behind.{tab_behind, pick_fore, pick_aft}
use Rattle.group_rules.proofs.Follows.{row_fore, row_aft}
use Rattle.group_rules.proofs.JoinRoom.{Laid}

module _ (W : World) where
  -- a slot under another number
  abbrev pub under : ℕ → Slot W → Slot W
  under n s = record { number = n; accounts = s.accounts; ints = s.ints; exts = s.exts }

  pub renumbered_table : (m i k n : ℕ) (f g : ℕ → Slot W) → ((j : ℕ) → j < m → g (k + j) ≡ under (n + j) (f (i + j))) → tab_i m k g ≡ renumbered W n (tab_i m i f)
  unfolding renumbered tab_i
  renumbered_table zero i k n f g h = refl
  renumbered_table (suc m) i k n f g h =
      ap₂ ◌∷◌ (rw (add-zero i, add-zero k, add-zero n) at (h 0 (omega arith)))
      (renumbered_table m (i + 1) (k + 1) (suc n) f g
      (λ j l. let x : i + 1 + j ≡ i + suc j = omega arith in let y : k + 1 + j ≡ k + suc j = omega arith in let z : suc n + j ≡ n + suc j = omega arith in
      rw (x, y, z) (h (suc j) (omega arith))))

module _ {l r j : Table} (b : Laid l r j) where
  abbrev picked : ℕ → List (List ℕ)
  picked s = pick (row_at j.accounts) s (count j 2) 0 j.home

  both : (s : ℕ) → picked s ≡ pick (row_at j.accounts) s (count l 2 + count r 2) 0 j.home
  both s = ap (λ (n : ℕ). pick (row_at j.accounts) s n 0 j.home) b.accounts·held

  slot_fore : (s : ℕ) → s < count l 1 → slot_in j s ≡ slot_in l s
  slot_fore s h = λ i. record {
    number = b.number.before s h i;
    accounts = (both s ∙ pick_fore b.home (row_at j.accounts) (row_at l.accounts) (row_fore (count l 2) (count r 2) b.accounts) s h) i;
    ints = b.ints.before s h i;
    exts = b.exts.before s h i;
  }

  slot_aft : (s : ℕ) → s < count r 1 → slot_in j (count l 1 + s) ≡ under Real (next_t l + s) (slot_in r s)
  slot_aft s h = λ i. record {
    number = (b.number.within s h ∙ get_d_tab (count r 1) (next_t l) s (next_t l + s) (λ n. n) 0 refl h) i;
    accounts = (both (count l 1 + s) ∙ pick_aft b.home (row_at j.accounts) (row_at r.accounts) (row_aft (count l 2) (count r 2) b.accounts) s) i;
    ints = b.ints.within s h i;
    exts = b.exts.within s h i;
  }

  pub slots_behind : slots_of j ≡ slots_of l ++ renumbered Real (next_t l) (slots_of r)
  unfolding slots_of
  slots_behind =
      ap (λ (n : ℕ). tab_i n 0 (slot_in j)) b.slots·held
      ∙ tab_behind (count l 1) (count r 1) 0 (slot_in j)
      ∙ ap₂ ◌++◌
      (tab_cong (count l 1) 0 (slot_in j) (slot_in l) (λ s x h. slot_fore s (omega arith)))
      (renumbered_table Real (count r 1) 0 (0 + count l 1) (next_t l) (slot_in r) (slot_in j)
      (λ s h. ap (λ (n : ℕ). slot_in j (n + s)) (zero-add (count l 1)) ∙ slot_aft s h ∙ ap (λ (n : ℕ). under Real (next_t l + s) (slot_in r n)) (omega arith)))
