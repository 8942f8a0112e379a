-- Slots in a table, by their numbers: each is there, no two have one number, and the count of a number is that of its slot. Rows in a table,
-- by their accounts. Over any world. Assumes nothing.
use mathlib.Core.Path.{◌≡◌, refl, sym, ap, ap₂, ◌∙◌}
use mathlib.Core.Bool.{Bool, true, false, cond, ◌||◌}
use mathlib.Core.Option.{Option, none, some}
use mathlib.Core.List.{List, [], ◌∷◌, map}
use Prim.Native.Nat.{ℕ, zero, suc, ◌+◌, ◌<◌, ◌≤◌}
use native.Mathlib.Nat.{not-suc-le-zero, le_refl, le_of_suc-le-suc, zero-add}
use native.Mathlib.Omega.{arith}
use lib.Dec.{eqb}
use lib.ListN.{length, get_or}
use borrow.Author.Tests.{eq-eqb, ne_eqb, eqb-true, eqb-false}
use Rattle.numbers.proofs.Bytes.{by_bool, clash}
use Rattle.rules.specs.World.{World, Row, Slot, is_member, at_least0}
use Rattle.rules.specs.Queues.{accounts, has_slot, count_of, count}
use Rattle.rules.specs.Fill.{numbers, next_number}
use Rattle.rules.specs.Demand.{OnceN}
use Rattle.columns.specs.Lists.{tab_i}
use Rattle.columns.specs.Rows.{row_at, rows_of}
use Rattle.columns.proofs.Tabs.{later, tab_get_d}
use Rattle.columns.proofs.Rows.{length_rows, get_d_rows}
use Rattle.message.specs.Real.{Real}

module _ (W : World) (s : ℕ → Slot W) where
  pub has_slot_lem : (m i j : ℕ) → i ≤ j → j < i + m → has_slot W (s j).number (tab_i m i s) ≡ true
  unfolding has_slot tab_i
  has_slot_lem zero i j a b = absurd (not-suc-le-zero {n = 0} (omega arith))
  has_slot_lem (suc m) i j a b =
      by_bool (eqb (s j).number (s i).number)
      (λ t. rw t)
      (λ t. rw t (has_slot_lem m (i + 1) j (let n : i ≡ j → ⊥ = λ z. eqb-false _ _ t (ap (λ (k : ℕ). (s k).number) (sym z)) in omega arith) (omega arith)))

  is_there : (m i j : ℕ) → i ≤ j → j < i + m → is_member (s j).number (numbers W (tab_i m i s)) ≡ true
  unfolding is_member numbers tab_i
  is_there zero i j a b = absurd (not-suc-le-zero {n = 0} (omega arith))
  is_there (suc m) i j a b =
      by_bool (eqb (s j).number (s i).number)
      (λ t. rw t)
      (λ t. rw t (is_there m (i + 1) j (let n : i ≡ j → ⊥ = λ z. eqb-false _ _ t (ap (λ (k : ℕ). (s k).number) (sym z)) in omega arith) (omega arith)))

  module _ (m i : ℕ) (n : ℕ) where
    clear : is_member n (numbers W (tab_i m i s)) ≡ false → (j : ℕ) → i ≤ j → j < i + m → n ≡ (s j).number → ⊥
    clear f j a b e = clash (is_member n (numbers W (tab_i m i s))) (ap (λ (k : ℕ). is_member k (numbers W (tab_i m i s))) e ∙ is_there m i j a b) f

  pub once_slots : (m i : ℕ) → OnceN (numbers W (tab_i m i s)) → (a b : ℕ) → i ≤ a → a < i + m → i ≤ b → b < i + m → (s a).number ≡ (s b).number → a ≡ b
  unfolding numbers tab_i
  once_slots zero i o a b w x y z e = absurd (not-suc-le-zero {n = 0} (omega arith))
  once_slots (suc m) i o a b w x y z e =
      by_bool (eqb i a)
      (λ t. by_bool (eqb i b)
      (λ u. sym (eqb-true i a t) ∙ eqb-true i b u)
      (λ u. let n = eqb-false i b u in
      absurd (clear m (i + 1) (s i).number o.0 b (omega arith) (omega arith) (ap (λ (k : ℕ). (s k).number) (eqb-true i a t) ∙ e))))
      (λ t. let n = eqb-false i a t in
      by_bool (eqb i b)
      (λ u. absurd (clear m (i + 1) (s i).number o.0 a (omega arith) (omega arith) (ap (λ (k : ℕ). (s k).number) (eqb-true i b u) ∙ sym e)))
      (λ u. let k = eqb-false i b u in once_slots m (i + 1) o.1 a b (omega arith) (omega arith) (omega arith) (omega arith) e))

  pub count_slots : (j m i : ℕ) → i ≤ j → j < i + m → ((g : ℕ) → i ≤ g → g < i + m → (s j).number ≡ (s g).number → j ≡ g)
      → count_of W (s j).number (tab_i m i s) ≡ count W (s j)
  unfolding count_of tab_i
  count_slots j zero i l h o = absurd (not-suc-le-zero {n = 0} (omega arith))
  count_slots j (suc m) i l h o =
      by_bool (eqb (s j).number (s i).number)
      (λ t. rw t (ap (λ (k : ℕ). count W (s k)) (sym (o i (le_refl i) (omega arith) (eqb-true _ _ t)))))
      (λ t. rw t (count_slots j m (i + 1) (let n : j ≡ i → ⊥ = λ e. eqb-false _ _ t (ap (λ (k : ℕ). (s k).number) e) in omega arith) (omega arith) (λ g a b. o g (omega arith) (omega arith))))

-- a number before the next one is not above the last
pub not_above : (W : World) (l : Option ℕ) (n : ℕ) → n < next_number W l → n ≤ at_least0 l
unfolding next_number at_least0
not_above W none n h = absurd (not-suc-le-zero h)
not_above W (some k) n h = le_of_suc-le-suc h

-- the accounts of rows in a table
accounts_tab : (W : World) (m i : ℕ) (f : ℕ → Row W) → accounts W (tab_i m i f) ≡ tab_i m i (λ (j : ℕ). (f j).acc)
unfolding accounts tab_i
accounts_tab W zero i f = refl
accounts_tab W (suc m) i f = ap (λ (l : List W.Acc). (f i).acc ∷ l) (accounts_tab W m (i + 1) f)

pub accounts_rows : (m : ℕ) (bytes : List ℕ) (f : ℕ → Row Real) → ((j : ℕ) → (f j).acc ≡ row_at bytes j) → accounts Real (tab_i m 0 f) ≡ rows_of m bytes
accounts_rows m bytes f h =
    accounts_tab Real m 0 f
    ∙ tab_get_d [] (rows_of m bytes) m 0 (sym (length_rows m bytes)) (λ (j : ℕ). (f j).acc)
    (λ j l. ap (λ (k : ℕ). (f k).acc) (zero-add j) ∙ h j ∙ sym (get_d_rows m j bytes [] l))
