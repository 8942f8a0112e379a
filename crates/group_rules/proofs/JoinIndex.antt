-- The buckets of a join: the right's slots can be listed under their new numbers (`listable`), and listed so they are the index of the rules'
-- join (`index_is`). Assumes nothing.
use mathlib.Core.Path.{◌≡◌, refl, sym, ap, ◌∙◌, subst}
use mathlib.Core.Bool.{false}
use mathlib.Core.List.{List, [], ◌∷◌}
use Prim.Native.Nat.{ℕ, zero, suc, ◌+◌, ◌<◌, ◌≤◌}
use native.Mathlib.Nat.{not-suc-le-zero, add-zero, zero-add}
use native.Mathlib.Omega.{arith}
use lib.ListN.{length, get_or, take, drop}
use lib.Seq.{take_all}
use borrow.Author.Tests.{ne_eqb}
use Rattle.numbers.proofs.Bytes.{by_bool}
use Rattle.columns.specs.Lists.{tab_i}
use Rattle.columns.proofs.Laid.{middle_laid}
use Rattle.columns.proofs.Tabs.{length_tab, get_d_tab}
use Rattle.rules.specs.World.{Slot, is_member}
use Rattle.rules.specs.Queues.{has_slot}
use Rattle.rules.specs.Queues as queues
use Rattle.rules.specs.Fill.{next_number, renumbered, listed_too}
use Rattle.rules.specs.Fill as fill
use Rattle.rules.specs.Demand.{OnceN}
use Rattle.demands.proofs.SoundJoin.{Small, to_small}
use Rattle.message.specs.Answers.{Done}
use Rattle.message.specs.Real.{Real}
use Rattle.buckets.specs.Cells.{index}
use Rattle.buckets.specs.Moves as moves
use Rattle.buckets.specs.Moves.{Plain, Leaves, MayList}
use Rattle.buckets.proofs.Worlds.{list_any}
use Rattle.buckets.proofs.Groups.{may_list}
use Rattle.slots.specs.Table.{Table, count}
use Rattle.slots.specs.Meant.{slot_in, slots_of, group_of}
use Rattle.slots.specs.Good.{Good}
use Rattle.slots.specs.Join.{next_t, join_code_t, joined_t}
use Rattle.group_rules.proofs.JoinCode.{next_t_is, slots_many}
use Rattle.group_rules.proofs.JoinRoom.{Pair, pair, slots_fit}
use Rattle.group_rules.proofs.JoinSlots.{under, renumbered_table}
use Rattle.group_rules.proofs.JoinRule.{ListsNew}

-- ---- numbers from k on

abbrev pub from : ℕ → ℕ → List ℕ
from k m = tab_i m k (λ n. n)

not_before : (x m k : ℕ) → x < k → is_member x (from k m) ≡ false
unfolding is_member tab_i
not_before x zero k l = refl
not_before x (suc m) k l = rw (ne_eqb x k (λ e. omega arith)) (not_before x m (k + 1) (omega arith))

once_from : (m k : ℕ) → OnceN (from k m)
unfolding tab_i
once_from zero k = tt
once_from (suc m) k = (not_before k m (k + 1) (omega arith), once_from m (k + 1))

at_from : (m k i : ℕ) → i < m → get_or (from k m) i 0 ≡ k + i
at_from m k i l = get_d_tab m k i (k + i) (λ n. n) 0 refl l

-- ---- no slot of a table counts above 16
small_tab : (f : ℕ → Slot Real) (m i j : ℕ) → Small Real (tab_i m i f) → j < m → queues.count Real (f (i + j)) ≤ 16
unfolding tab_i
small_tab f zero i j s l = absurd (not-suc-le-zero l)
small_tab f (suc m) i zero s l = rw (add-zero i) s.0
small_tab f (suc m) i (suc j) s l =
    let z : i + 1 + j ≡ i + suc j = omega arith in
    rw z at (small_tab f m (i + 1) j s.1 (omega arith))

pub slot_small : (t : Table) → Good t → (i : ℕ) → i < count t 1 → get_or t.ints i 0 + get_or t.exts i 0 ≤ 16
unfolding slots_of queues.count
slot_small t good i h =
    let s = good.tidy.sound in
    rw (zero-add i) at (small_tab (slot_in t) (count t 1) 0 i (to_small Real (slots_of t) s.distinct s.small) h)

-- a number for each slot
numbers_many : (ss : List (Slot Real)) → length (fill.numbers Real ss) ≡ length ss
unfolding fill.numbers
numbers_many [] = refl
numbers_many (s ∷ ss) = ap suc (numbers_many ss)

-- the counts of the right's slots, as a column
abbrev pub Counts : Table → List ℕ → Type 0
Counts r counts = (i : ℕ) → i < count r 1 → get_or counts i 0 ≡ get_or r.ints i 0 + get_or r.exts i 0

-- the new numbers, as they stand in the column of numbers
abbrev pub new_numbers : Table → Table → List ℕ → List ℕ
new_numbers l r cells = take (count r 1) (drop (count l 1) (joined_t l r cells).number)

module _ (l r : Table) (good : Good l) (good2 : Good r) (done : join_code_t l r ≡ Done) where
  p : Pair l r
  p = pair good good2 done

  pub new_numbers_lem : (cells : List ℕ) → new_numbers l r cells ≡ from (next_t l) (count r 1)
  unfolding joined_t
  new_numbers_lem cells =
      let size = length_tab (count r 1) (next_t l) (λ (n : ℕ). n) in
      rw size at (middle_laid (count l 1) (from (next_t l) (count r 1)) l.number (omega (arith, size, slots_fit p, good.lengths.number)))

  module _ (counts : List ℕ) (counted : Counts r counts) where
    low : (i : ℕ) → i < count r 1 → get_or counts i 0 ≤ 16
    low i h = omega (arith, counted i h, slot_small r good2 i h)

    other : (i : ℕ) → i < count r 1 → has_slot Real (next_t l + i) (slots_of l) ≡ false
    other i h =
        by_bool (has_slot Real (next_t l + i) (slots_of l))
        (λ t. absurd (omega (arith, good.tidy.sound.numbered (next_t l + i) t, next_t_is l)))
        (λ f. f)

    -- the right's slots can be listed, their numbers being those from the next on
    pub listable_from : length counts ≡ 64 → MayList l.buckets (from (next_t l) (count r 1)) counts (count r 1)
    listable_from e =
        let new = from (next_t l) (count r 1) in
        let size = length_tab (count r 1) (next_t l) (λ (n : ℕ). n) in
        may_list Real (slots_of l) good.buckets good.tidy.index new counts (count r 1)
        (omega (arith, numbers_many (slots_of l), slots_many l, slots_fit p))
        (omega (arith, size))
        (omega (arith, slots_fit p))
        (subst OnceN (sym (take_all (count r 1) new (omega (arith, size)))) (once_from (count r 1) (next_t l)))
        low
        (λ i h. ap (λ (n : ℕ). has_slot Real n (slots_of l)) (at_from (count r 1) (next_t l) i h) ∙ other i h)

    -- and so as they stand in the column
    pub listable : (cells : List ℕ) → length counts ≡ 64 → MayList l.buckets (new_numbers l r cells) counts (count r 1)
    listable cells e = subst (λ (ns : List ℕ). MayList l.buckets ns counts (count r 1)) (sym (new_numbers_lem cells)) (listable_from e)

    -- the slots of the contract, a number and a count each, and those of the rules
    listed_new : listed_too Plain (moves.slots_of (from (next_t l) (count r 1)) counts (count r 1)) 0 (index l.buckets)
        ≡ listed_too Real (renumbered Real (next_number Real (group_of l).last) (group_of r).slots) 0 (index l.buckets)
    unfolding slots_of queues.count
    listed_new =
        let new : ℕ → Slot Real = λ j. under Real (next_t l + j) (slot_in r j) in
        list_any (from (next_t l) (count r 1)) counts (count r 1) Real new
        (λ j h. record { named = sym (at_from (count r 1) (next_t l) j h); now = sym (counted j h) }) l.buckets
        ∙ ap (λ (ss : List (Slot Real)). listed_too Real ss 0 (index l.buckets))
        (renumbered_table Real (count r 1) 0 0 (next_t l) (slot_in r) new (λ j h. ap (λ (k : ℕ). under Real (next_t l + k) (slot_in r (0 + j))) (zero-add j))
        ∙ ap (λ (n : ℕ). renumbered Real n (slots_of r)) (next_t_is l))

    pub index_from : {cells : List ℕ} → Leaves (listed_too Plain (moves.slots_of (from (next_t l) (count r 1)) counts (count r 1)) 0 (index l.buckets)) cells
        → ListsNew l r cells
    index_from v = v.holds ∙ listed_new

    pub index_is : {made : List ℕ} (cells : List ℕ) → Leaves (listed_too Plain (moves.slots_of (new_numbers l r cells) counts (count r 1)) 0 (index l.buckets)) made
        → ListsNew l r made
    index_is cells v =
        v.holds
        ∙ ap (λ (ns : List ℕ). listed_too Plain (moves.slots_of ns counts (count r 1)) 0 (index l.buckets)) (new_numbers_lem cells)
        ∙ listed_new
