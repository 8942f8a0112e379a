-- The loops that judge the accounts of the order and of the group: two tables, of marks and of costs, are laid at once. Assumes nothing.
use mathlib.Core.Path.{◌≡◌, ap, ◌∙◌}
use mathlib.Core.List.{List}
use Prim.Native.Nat.{ℕ, ◌+◌, ◌<◌, ◌≤◌}
use lib.ListN.{length, get_or, set}
use borrow.Author.Tests.{eq-eqb, ne_eqb}
use Rattle.columns.specs.Rows.{row_at}
use Rattle.entry.specs.Entry.{Sayings, mark_of, cost_of, group_mark, group_cost, order_marks, order_costs, group_marks, group_costs, Judges}
use Rattle.entry.proofs.Tables.{Tabling, table_start, table_step, front_step, table_end}

-- ---- the order
pub record Ordering (s : Sayings) (accounts : List ℕ) (places : ℕ) (mark₀ cost₀ mark cost : List ℕ) (p : ℕ) : Type 0 where
  pub marks : Tabling (λ (q : ℕ). mark_of s (row_at accounts q)) 0 places mark₀ mark p
  pub costs : Tabling (λ (q : ℕ). cost_of s (row_at accounts q)) 0 places cost₀ cost p

pub order_start : (s : Sayings) (accounts : List ℕ) (places : ℕ) (mark cost : List ℕ) → Ordering s accounts places mark cost mark cost 0
order_start s accounts places mark cost = record { marks = table_start _ _ _ _; costs = table_start _ _ _ _ }

module _ {s : Sayings} {accounts : List ℕ} {places : ℕ} {mark₀ cost₀ mark cost : List ℕ} {p : ℕ} (v : Ordering s accounts places mark₀ cost₀ mark cost p) where
  pub order_step : places ≤ length mark₀ → places ≤ length cost₀ → p < places → (x : List ℕ) (m k : ℕ) → x ≡ row_at accounts p
      → m ≡ mark_of s x → k ≡ cost_of s x → Ordering s accounts places mark₀ cost₀ (set mark p m) (set cost p k) (p + 1)
  order_step a b l x m k e f g = record {
    marks = front_step v.marks a l m (f ∙ ap (mark_of s) e);
    costs = front_step v.costs b l k (g ∙ ap (cost_of s) e);
  }

  pub order_end : places ≤ p → Judges (order_marks s accounts places mark₀) (order_costs s accounts places cost₀) mark cost
  unfolding order_marks order_costs
  order_end h = record { mark_is = table_end v.marks h; cost_is = table_end v.costs h }

-- ---- the group
pub record Grouping (s : Sayings) (accounts member : List ℕ) (n : ℕ) (mark₀ cost₀ mark cost : List ℕ) (g : ℕ) : Type 0 where
  pub marks : Tabling (group_mark s accounts member) 256 n mark₀ mark g
  pub costs : Tabling (group_cost s accounts member) 256 n cost₀ cost g

pub group_start : (s : Sayings) (accounts member : List ℕ) (n : ℕ) (mark cost : List ℕ) → Grouping s accounts member n mark cost mark cost 0
group_start s accounts member n mark cost = record { marks = table_start _ _ _ _; costs = table_start _ _ _ _ }

module _ {s : Sayings} {accounts member : List ℕ} {n : ℕ} {mark₀ cost₀ mark cost : List ℕ} {g : ℕ} (v : Grouping s accounts member n mark₀ cost₀ mark cost g) where
  module _ (a : 256 + n ≤ length mark₀) (b : 256 + n ≤ length cost₀) (l : g < n) (m k : ℕ) where
    step : m ≡ group_mark s accounts member g → k ≡ group_cost s accounts member g
        → Grouping s accounts member n mark₀ cost₀ (set mark (256 + g) m) (set cost (256 + g) k) (g + 1)
    step e f = record { marks = table_step v.marks a l m e; costs = table_step v.costs b l k f }

    pub group_own : get_or member g 0 ≡ 256 + g → (x : List ℕ) → x ≡ row_at accounts g → m ≡ mark_of s x → k ≡ cost_of s x
        → Grouping s accounts member n mark₀ cost₀ (set mark (256 + g) m) (set cost (256 + g) k) (g + 1)
    group_own t x e f h =
        let yes = eq-eqb (get_or member g 0) (256 + g) t in
        step (f ∙ rw yes (ap (mark_of s) e)) (h ∙ rw yes (ap (cost_of s) e))

    pub group_none : (get_or member g 0 ≡ 256 + g → ⊥) → m ≡ 0 → k ≡ s.cost
        → Grouping s accounts member n mark₀ cost₀ (set mark (256 + g) m) (set cost (256 + g) k) (g + 1)
    group_none t f h = let no = ne_eqb (get_or member g 0) (256 + g) t in step (f ∙ rw no) (h ∙ rw no)

  pub group_end : n ≤ g → Judges (group_marks s accounts member n mark₀) (group_costs s accounts member n cost₀) mark cost
  unfolding group_marks group_costs
  group_end h = record { mark_is = table_end v.marks h; cost_is = table_end v.costs h }
