-- Each number below 1,280 either is the number of an account, and has the mark and the cost of that account, or is nobody's, and has mark 0
-- and the cost of an account without a row. So the marks and the costs say what the rules say. Assumes nothing.
use mathlib.Core.Path.{◌≡◌, refl, sym, ap, ◌∙◌}
use mathlib.Core.Bool.{Bool, true, false, cond, not}
use mathlib.Core.Logic.{◌⊎◌, inl, inr, ⊎_elim}
use mathlib.Core.List.{List, [], ◌++◌, map}
use Prim.Native.Nat.{ℕ, zero, suc, ◌+◌, ◌-◌, ◌<◌, ◌≤◌}
use native.Mathlib.Nat.{zero-add}
use native.Mathlib.Omega.{arith}
use lib.Dec.{eqb, ltb}
use lib.ListN.{length, get_or}
use borrow.Author.Tests.{eq-eqb, ne_eqb, eqb-true, eqb-false, lt-ltb, le-ltb, ltb-true, ltb-false}
use Rattle.numbers.proofs.Bytes.{by_bool, clash}
use Rattle.rules.specs.Demand.{Once}
use Rattle.message.specs.Real.{Real}
use Rattle.columns.specs.Rows.{row_at, rows_of, index_of}
use Rattle.columns.proofs.Rows.{length_rows, get_d_rows}
use Rattle.entry.specs.Entry.{Sayings, party_of, numbered_c, mark_of, cost_of, group_mark, group_cost, order_marks, order_costs, group_marks, group_costs}
use Rattle.entry_rules.specs.Naming.{num_of, acc_of, IsNumber}
use Rattle.entry_rules.proofs.Naming.{seat, num_order, num_group, num_other, acc_order, acc_group}
use Rattle.entry_rules.proofs.Tabs.{laid_long, laid_cell, laid_before, laid_behind, front_cell}
use Rattle.entry_rules.proofs.Members.{party_num, named_row, member_cell}

-- a number below 1,280 that an account has is a place, or the row of an account of the group
num_range : (os gs ls : List (List ℕ)) → length os ≤ 256 → length gs ≤ 1024 → (x : List ℕ) → num_of os gs ls x < 1280
    → (num_of os gs ls x < length os) ⊎ ((256 ≤ num_of os gs ls x) × (num_of os gs ls x < 256 + length gs))
num_range os gs ls few some x l =
    by_bool (ltb (index_of x os) (length os))
    (λ t. let h = ltb-true (index_of x os) (length os) t in inl (omega (arith, num_order os gs ls few some x h)))
    (λ f. by_bool (ltb (index_of x gs) (length gs))
    (λ t. let h = ltb-true (index_of x gs) (length gs) t in
    let e = num_group os gs ls few some x f h in
    inr (omega arith, omega arith))
    (λ g. absurd (omega (arith, num_other os gs ls few some x f g))))

-- somebody's number, or nobody's
pub record Somebody (os gs ls : List (List ℕ)) (s : Sayings) (p mark cost : ℕ) : Type 0 where
  pub is : IsNumber os gs ls p
  pub mark_is : mark ≡ mark_of s (acc_of os gs ls p)
  pub cost_is : cost ≡ cost_of s (acc_of os gs ls p)

pub record Nobody (os gs ls : List (List ℕ)) (s : Sayings) (p mark cost : ℕ) : Type 0 where
  pub not_one : IsNumber os gs ls p → ⊥
  pub mark_is : mark ≡ 0
  pub cost_is : cost ≡ s.cost

abbrev pub Judged : (os gs ls : List (List ℕ)) (s : Sayings) (p mark cost : ℕ) → Type 0
Judged os gs ls s p mark cost = Somebody os gs ls s p mark cost ⊎ Nobody os gs ls s p mark cost

module _ (order : List ℕ) (places : ℕ) (group : List ℕ) (n : ℕ) (ls : List (List ℕ)) (few : places ≤ 256) (some : n ≤ 1024)
    (once : Once Real (rows_of n group)) (order_once : Once Real (rows_of places order))
    (s : Sayings) (member₀ mark₀ cost₀ : List ℕ) (long : length member₀ ≡ 1280) (mark_long : length mark₀ ≡ 1280) (cost_long : length cost₀ ≡ 1280)
    (unmarked : (p : ℕ) → p < 1280 → get_or mark₀ p 0 ≡ 0) (uncosted : (p : ℕ) → p < 1280 → get_or cost₀ p 0 ≡ s.cost) where
  abbrev os : List (List ℕ)
  os = rows_of places order

  abbrev gs : List (List ℕ)
  gs = rows_of n group

  few' : length os ≤ 256
  few' = omega (arith, length_rows places order)

  some' : length gs ≤ 1024
  some' = omega (arith, length_rows n group)

  abbrev member : List ℕ
  member = numbered_c order places group n member₀

  abbrev mark : List ℕ
  mark = group_marks s group member n (order_marks s order places mark₀)

  abbrev cost : List ℕ
  cost = group_costs s group member n (order_costs s order places cost₀)

  -- ---- the cells
  order_marks_long : length (order_marks s order places mark₀) ≡ 1280
  unfolding order_marks
  order_marks_long = laid_long (λ (p : ℕ). mark_of s (row_at order p)) 0 places mark₀ (omega arith) ∙ mark_long

  order_costs_long : length (order_costs s order places cost₀) ≡ 1280
  unfolding order_costs
  order_costs_long = laid_long (λ (p : ℕ). cost_of s (row_at order p)) 0 places cost₀ (omega arith) ∙ cost_long

  pub marks_long : length mark ≡ 1280
  unfolding group_marks
  marks_long = laid_long (group_mark s group member) 256 n (order_marks s order places mark₀) (omega (arith, order_marks_long)) ∙ order_marks_long

  pub costs_long : length cost ≡ 1280
  unfolding group_costs
  costs_long = laid_long (group_cost s group member) 256 n (order_costs s order places cost₀) (omega (arith, order_costs_long)) ∙ order_costs_long

  below_marks : (p : ℕ) → p < 256 → get_or mark p 0 ≡ get_or (order_marks s order places mark₀) p 0
  unfolding group_marks
  below_marks p l = laid_before (group_mark s group member) 256 n (order_marks s order places mark₀) (omega (arith, order_marks_long)) p l

  below_costs : (p : ℕ) → p < 256 → get_or cost p 0 ≡ get_or (order_costs s order places cost₀) p 0
  unfolding group_costs
  below_costs p l = laid_before (group_cost s group member) 256 n (order_costs s order places cost₀) (omega (arith, order_costs_long)) p l

  place_mark : (p : ℕ) → p < places → get_or mark p 0 ≡ mark_of s (row_at order p)
  unfolding order_marks
  place_mark p l = below_marks p (omega arith) ∙ front_cell (λ (q : ℕ). mark_of s (row_at order q)) places mark₀ (omega arith) p l

  place_cost : (p : ℕ) → p < places → get_or cost p 0 ≡ cost_of s (row_at order p)
  unfolding order_costs
  place_cost p l = below_costs p (omega arith) ∙ front_cell (λ (q : ℕ). cost_of s (row_at order q)) places cost₀ (omega arith) p l

  past_mark : (p : ℕ) → places ≤ p → p < 1280 → get_or (order_marks s order places mark₀) p 0 ≡ 0
  unfolding order_marks
  past_mark p l h = laid_behind (λ (q : ℕ). mark_of s (row_at order q)) 0 places mark₀ (omega arith) p (omega arith) ∙ unmarked p h

  past_cost : (p : ℕ) → places ≤ p → p < 1280 → get_or (order_costs s order places cost₀) p 0 ≡ s.cost
  unfolding order_costs
  past_cost p l h = laid_behind (λ (q : ℕ). cost_of s (row_at order q)) 0 places cost₀ (omega arith) p (omega arith) ∙ uncosted p h

  group_mark_lem : (g : ℕ) → g < n → get_or mark (256 + g) 0 ≡ group_mark s group member g
  unfolding group_marks
  group_mark_lem g l = laid_cell (group_mark s group member) 256 n (order_marks s order places mark₀) (omega (arith, order_marks_long)) g l

  group_cost_lem : (g : ℕ) → g < n → get_or cost (256 + g) 0 ≡ group_cost s group member g
  unfolding group_costs
  group_cost_lem g l = laid_cell (group_cost s group member) 256 n (order_costs s order places cost₀) (omega (arith, order_costs_long)) g l

  behind_mark : (p : ℕ) → 256 + n ≤ p → p < 1280 → get_or mark p 0 ≡ 0
  unfolding group_marks
  behind_mark p l h =
      laid_behind (group_mark s group member) 256 n (order_marks s order places mark₀) (omega (arith, order_marks_long)) p l ∙ past_mark p (omega arith) h

  behind_cost : (p : ℕ) → 256 + n ≤ p → p < 1280 → get_or cost p 0 ≡ s.cost
  unfolding group_costs
  behind_cost p l h =
      laid_behind (group_cost s group member) 256 n (order_costs s order places cost₀) (omega (arith, order_costs_long)) p l ∙ past_cost p (omega arith) h

  -- ---- whose number it is
  pub place_number : (p : ℕ) → p < places → IsNumber os gs ls p
  place_number p l =
      let q : p < length os = omega (arith, length_rows places order) in
      let e = seat os order_once p q in
      ap (num_of os gs ls) (acc_order os gs ls few' some' p q)
      ∙ num_order os gs ls few' some' (get_or os p []) (omega arith) ∙ e

  place_acc : (p : ℕ) → p < places → acc_of os gs ls p ≡ row_at order p
  place_acc p l = acc_order os gs ls few' some' p (omega (arith, length_rows places order)) ∙ get_d_rows places p order [] l

  row_acc : (g : ℕ) → g < n → acc_of os gs ls (256 + g) ≡ row_at group g
  row_acc g l = acc_group os gs ls few' some' g (omega (arith, length_rows n group)) ∙ get_d_rows n g group [] l

  out_of_range : (p : ℕ) → p < 1280 → places ≤ p → (256 ≤ p → p < 256 + n → ⊥) → IsNumber os gs ls p → ⊥
  out_of_range p l h k e =
      ⊎_elim
      (λ a. omega (arith, a, e, length_rows places order))
      (λ b. k (omega (arith, b.0, e)) (omega (arith, b.1, e, length_rows n group)))
      (num_range os gs ls few' some' (acc_of os gs ls p) (omega arith))

  of_place : (p : ℕ) → p < places → Judged os gs ls s p (get_or mark p 0) (get_or cost p 0)
  of_place p l = inl (record {
    is = place_number p l;
    mark_is = place_mark p l ∙ ap (mark_of s) (sym (place_acc p l));
    cost_is = place_cost p l ∙ ap (cost_of s) (sym (place_acc p l));
  })

  of_row : (g : ℕ) → g < n → Judged os gs ls s (256 + g) (get_or mark (256 + g) 0) (get_or cost (256 + g) 0)
  of_row g l =
      let cell = member_cell order places group n ls few some once member₀ long g l in
      let party = party_num order places group n ls few some once g l in
      let a = row_acc g l in
      by_bool (eqb (get_or member g 0) (256 + g))
      (λ t. let e : num_of os gs ls (row_at group g) ≡ 256 + g = sym party ∙ sym cell ∙ eqb-true (get_or member g 0) (256 + g) t in
      inl (record {
        is = ap (num_of os gs ls) a ∙ e;
        mark_is = group_mark_lem g l ∙ rw t (ap (mark_of s) (sym a));
        cost_is = group_cost_lem g l ∙ rw t (ap (cost_of s) (sym a));
      }))
      (λ f. inr (record {
        not_one = λ e. eqb-false (get_or member g 0) (256 + g) f (cell ∙ party ∙ ap (num_of os gs ls) (sym a) ∙ e);
        mark_is = group_mark_lem g l ∙ rw f;
        cost_is = group_cost_lem g l ∙ rw f;
      }))

  pub judged : (p : ℕ) → p < 1280 → Judged os gs ls s p (get_or mark p 0) (get_or cost p 0)
  judged p l =
      by_bool (ltb p places)
      (λ t. of_place p (ltb-true p places t))
      (λ f. let a = ltb-false p places f in
      by_bool (ltb p 256)
      (λ t. let b = ltb-true p 256 t in
      inr (record {
        not_one = out_of_range p l a (λ x y. omega arith);
        mark_is = below_marks p b ∙ past_mark p a l;
        cost_is = below_costs p b ∙ past_cost p a l;
      }))
      (λ g. let b = ltb-false p 256 g in
      by_bool (ltb p (256 + n))
      (λ t. let c = ltb-true p (256 + n) t in
      let z : 256 + (p - 256) ≡ p = omega arith in
      rw z at (of_row (p - 256) (omega arith)))
      (λ h. let c = ltb-false p (256 + n) h in
      inr (record {
        not_one = out_of_range p l a (λ x y. omega arith);
        mark_is = behind_mark p c l;
        cost_is = behind_cost p c l;
      }))))
