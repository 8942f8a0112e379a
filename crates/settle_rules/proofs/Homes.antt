-- An account's home is a slot, in a group that is tidy: an account with a list stands in the accounts of a slot, which are those whose home it
-- is, and no account has two rows (`home_low`). Assumes nothing.
use mathlib.Core.Path.{◌≡◌, refl, sym, ap, ◌∙◌}
use mathlib.Core.Bool.{true, false}
use mathlib.Core.Logic.{⊎_elim}
use mathlib.Core.List.{List, [], ◌∷◌}
use Prim.Native.Nat.{ℕ, zero, suc, ◌+◌, ◌<◌}
use native.Mathlib.Nat.{add-zero, zero-add}
use native.Mathlib.Omega.{arith}
use lib.Dec.{eqb, ltb}
use lib.ListN.{get_or}
use borrow.Author.Tests.{eqb-true, eqb-false, ltb-true, ltb-false}
use Rattle.numbers.proofs.Bytes.{by_bool, clash}
use Rattle.columns.specs.Lists.{tab_i, pick}
use Rattle.columns.specs.Rows.{row_at}
use Rattle.rules.specs.World.{World, Slot}
use Rattle.rules.specs.Queues.{is_in}
use Rattle.rules.specs.Kept.{slotted, TidyGroup}
use Rattle.demands.proofs.Rows.{Lawful, or_cases}
use Rattle.demands.proofs.Slots.{is_in_append}
use Rattle.message.specs.Real.{Real}
use Rattle.message.proofs.Real.{real_lawful}
use Rattle.queues.specs.Meant.{row_in, order_of}
use Rattle.buffer_rules.proofs.AddOrder.{has_tab}
use Rattle.slots.specs.Table.{Table, count}
use Rattle.slots.specs.Meant.{listed, slot_in, slots_of, group_of}
use Rattle.group_rules.proofs.GroupUnique.{rows_apart}

module _ (W : World) (L : Lawful W) (a : W.Acc) where
  -- an account that owner p picks stands at an index of that owner
  record Owned (f : ℕ → W.Acc) (p m i : ℕ) (os : List ℕ) : Type 0 where
    at : ℕ
    low : at < m
    owner : get_or os at 0 ≡ p
    is : a ≡ f (i + at)

  owned : (f : ℕ → W.Acc) (p m i : ℕ) (os : List ℕ) → is_in W a (pick f p m i os) ≡ true → Owned f p m i os
  unfolding is_in pick
  owned f p zero i os e = clash false e refl
  owned f p (suc m) i [] e = clash false e refl
  owned f p (suc m) i (o ∷ os) e =
      by_bool (eqb o p)
      (λ t. by_bool (W.same a (f i))
      (λ s. record { at = 0; low = omega arith; owner = eqb-true o p t; is = L.decide a (f i) s ∙ ap f (sym (add-zero i)) })
      (λ s. behind (owned f p m (i + 1) os (rw (t, s) at e))))
      (λ t. behind (owned f p m (i + 1) os (rw t at e)))
    where
      behind : Owned f p m (i + 1) os → Owned f p (suc m) i (o ∷ os)
      behind r = record { at = suc r.at; low = omega (arith, r.low); owner = r.owner; is = r.is ∙ ap f (omega arith) }

  -- an account of the slots is one of a slot
  record InSlot (s : ℕ → Slot W) (m i : ℕ) : Type 0 where
    at : ℕ
    low : at < m
    inside : is_in W a (s (i + at)).accounts ≡ true

  in_slot : (s : ℕ → Slot W) (m i : ℕ) → is_in W a (slotted W (tab_i m i s)) ≡ true → InSlot s m i
  unfolding is_in slotted tab_i
  in_slot s zero i e = clash false e refl
  in_slot s (suc m) i e =
      ⊎_elim
      (λ h. record { at = 0; low = omega arith; inside = ap (λ (j : ℕ). is_in W a (s j).accounts) (add-zero i) ∙ h })
      (λ h. behind (in_slot s m (i + 1) h))
      (or_cases (is_in W a (s i).accounts) (is_in W a (slotted W (tab_i m (i + 1) s))) (sym (is_in_append W a (s i).accounts (slotted W (tab_i m (i + 1) s))) ∙ e))
    where
      behind : InSlot s m (i + 1) → InSlot s (suc m) i
      behind r =
          let z : i + suc r.at ≡ i + 1 + r.at = omega arith in
          record { at = suc r.at; low = omega (arith, r.low); inside = ap (λ (j : ℕ). is_in W a (s j).accounts) z ∙ r.inside }

module _ (t : Table) (tidy : TidyGroup Real (group_of t)) where
  -- no account has two rows
  row_told : (j k : ℕ) → j < count t 2 → k < count t 2 → row_at t.accounts j ≡ row_at t.accounts k → j ≡ k
  unfolding order_of
  row_told j k a b e =
      let apart = rows_apart Real real_lawful (row_in (listed t)) (count t 2) 0 in
      by_bool (ltb j k)
      (λ x. absurd (apart j k tidy.tidy.rows (omega arith) (ltb-true j k x) (omega arith) e))
      (λ x. let h = ltb-false j k x in
      by_bool (eqb j k)
      (λ y. eqb-true j k y)
      (λ y. let n = eqb-false j k y in absurd (apart k j tidy.tidy.rows (omega arith) (omega arith) (omega arith) (sym e))))

  pub home_low : (g : ℕ) → g < count t 2 → get_or t.home g 0 < count t 1
  unfolding order_of slots_of
  home_low g l =
      let a = row_at t.accounts g in
      let listed-there = has_tab Real a (count t 2) 0 g (row_in (listed t)) (omega arith) (omega arith) (real_lawful.self a) in
      let s = in_slot Real real_lawful a (slot_in t) (count t 1) 0 (tidy.tidy.member a ∙ listed-there) in
      let r = owned Real real_lawful a (row_at t.accounts) (0 + s.at) (count t 2) 0 t.home s.inside in
      let z : g ≡ r.at = row_told g r.at l r.low (r.is ∙ ap (row_at t.accounts) (zero-add r.at)) in
      omega (arith, ap (λ (k : ℕ). get_or t.home k 0) z, r.owner, s.low)
