-- Slots in a table, by their numbers: which of them has a number, none has one, no number stands twice. The count that a number had before a
-- fill is the one in the columns at entry (`count_before`), and the one after it that in the columns now (`count_now`). Assumes nothing.
use mathlib.Core.Path.{◌≡◌, refl, sym, ap, ◌∙◌}
use mathlib.Core.Bool.{true, false}
use mathlib.Core.List.{List, [], ◌∷◌}
use Prim.Native.Nat.{ℕ, zero, suc, ◌+◌, ◌<◌, ◌≤◌}
use native.Mathlib.Nat.{zero-add}
use native.Mathlib.Omega.{arith}
use lib.Dec.{eqb, ltb}
use lib.ListN.{get_or, take}
use borrow.Author.Tests.{ne_eqb, eqb-true, ltb-true, ltb-false}
use Rattle.numbers.proofs.Bytes.{by_bool, clash}
use Rattle.rules.specs.World.{World, Slot, is_member}
use Rattle.rules.specs.Queues.{has_slot, count_of, count}
use Rattle.rules.specs.Demand.{OnceN}
use Rattle.columns.specs.Lists.{tab_i}
use Rattle.columns.proofs.Tabs.{get_d_tab}
use Rattle.entry_rules.proofs.Slotted.{count_slots}
use Rattle.settle_rules.specs.Facts.{held_by}

-- ---- numbers in a column

not_among : (x n : ℕ) (xs : List ℕ) → ((j : ℕ) → j < n → x ≡ get_or xs j 0 → ⊥) → is_member x (take n xs) ≡ false
unfolding is_member
not_among x zero xs h = refl
not_among x (suc n) [] h = refl
not_among x (suc n) (y ∷ xs) h = rw (ne_eqb x y (h 0 (omega arith))) (not_among x n xs (λ j l. h (suc j) (omega arith)))

pub once_take : (n : ℕ) (xs : List ℕ) → ((i j : ℕ) → i < n → j < n → get_or xs i 0 ≡ get_or xs j 0 → i ≡ j) → OnceN (take n xs)
once_take zero xs h = tt
once_take (suc n) [] h = tt
once_take (suc n) (x ∷ xs) h = (
  not_among x n xs (λ j l e. let z : 0 ≡ suc j = h 0 (suc j) (omega arith) (omega arith) e in omega arith),
  once_take n xs (λ i j a b e. let z : suc i ≡ suc j = h (suc i) (suc j) (omega arith) (omega arith) e in omega arith),
)

-- ---- slots in a table

-- the slot of a number
pub record Found (W : World) (s : ℕ → Slot W) (x m i : ℕ) : Type 0 where
  pub at : ℕ
  pub low : i ≤ at
  pub high : at < i + m
  pub named : (s at).number ≡ x

module _ (W : World) (s : ℕ → Slot W) where
  pub found : (x m i : ℕ) → has_slot W x (tab_i m i s) ≡ true → Found W s x m i
  unfolding has_slot tab_i
  found x zero i h = clash false h refl
  found x (suc m) i h =
      by_bool (eqb x (s i).number)
      (λ e. record { at = i; low = omega arith; high = omega arith; named = sym (eqb-true x (s i).number e) })
      (λ e. let r = found x m (i + 1) (rw e at h) in
      record { at = r.at; low = omega (arith, r.low); high = omega (arith, r.high); named = r.named })

  none_counted : (x m i : ℕ) → ((g : ℕ) → i ≤ g → g < i + m → x ≡ (s g).number → ⊥) → count_of W x (tab_i m i s) ≡ 0
  unfolding count_of tab_i
  none_counted x zero i h = refl
  none_counted x (suc m) i h =
      rw (ne_eqb x (s i).number (h i (omega arith) (omega arith))) (none_counted x m (i + 1) (λ g a b. h g (omega arith) (omega arith)))

-- ---- counts in columns

pub held_cell : (ints exts : List ℕ) (j : ℕ) → j < 64 → get_or (held_by 64 ints exts) j 0 ≡ get_or ints j 0 + get_or exts j 0
held_cell ints exts j l = get_d_tab 64 0 j j (λ i. get_or ints i 0 + get_or exts i 0) 0 (sym (zero-add j)) l

-- n slots stood at entry, s of them by their columns; `made` are the numbers after the fill, those of the slots that were opened above `last`
module _ (W : World) (s : ℕ → Slot W) (numbers ints exts made : List ℕ) (n last all : ℕ)
    (named : (j : ℕ) → (s j).number ≡ get_or numbers j 0) (counted : (j : ℕ) → count W (s j) ≡ get_or ints j 0 + get_or exts j 0)
    (apart : (i j : ℕ) → i < n → j < n → get_or numbers i 0 ≡ get_or numbers j 0 → i ≡ j)
    (low : (i : ℕ) → i < n → get_or numbers i 0 ≤ last)
    (blank-ints : (j : ℕ) → n ≤ j → j < 64 → get_or ints j 0 ≡ 0) (blank-exts : (j : ℕ) → n ≤ j → j < 64 → get_or exts j 0 ≡ 0)
    (stay : (j : ℕ) → j < n → get_or made j 0 ≡ get_or numbers j 0) (new : (j : ℕ) → n ≤ j → j < all → last < get_or made j 0) where
  stood : (j : ℕ) → j < n → count_of W (get_or made j 0) (tab_i n 0 s) ≡ get_or ints j 0 + get_or exts j 0
  stood j l =
      ap (λ (x : ℕ). count_of W x (tab_i n 0 s)) (stay j l ∙ sym (named j))
      ∙ count_slots W s j n 0 (omega arith) (omega arith) (λ g a b e. apart j g l (omega arith) (sym (named j) ∙ e ∙ named g))
      ∙ counted j

  opened : (j : ℕ) → n ≤ j → j < all → count_of W (get_or made j 0) (tab_i n 0 s) ≡ 0
  opened j a l =
      none_counted W s (get_or made j 0) n 0
      (λ g b h e. let z = low g (omega arith) in let y = new j a l in let w : get_or made j 0 ≡ get_or numbers g 0 = e ∙ named g in omega arith)

  pub count_before : (j : ℕ) → j < all → j < 64 → count_of W (get_or made j 0) (tab_i n 0 s) ≡ get_or (held_by 64 ints exts) j 0
  count_before j l h =
      by_bool (ltb j n)
      (λ t. stood j (ltb-true j n t) ∙ sym (held_cell ints exts j h))
      (λ t. let a = ltb-false j n t in let x = blank-ints j a h in let y = blank-exts j a h in
      opened j a l ∙ sym (held_cell ints exts j h ∙ omega arith))

  -- a slot that stood is among the numbers made
  pub stays_among : n ≤ all → (x : ℕ) → has_slot W x (tab_i n 0 s) ≡ true → (j : ℕ) × ((j < all) × (x ≡ get_or made j 0))
  stays_among few x h =
      let r = found W s x n 0 h in
      let l : r.at < n = omega (arith, r.high) in
      (r.at, (omega arith, sym r.named ∙ named r.at ∙ sym (stay r.at l)))

-- the counts now: no two slots have one number
pub count_now : (W : World) (s : ℕ → Slot W) (made ints exts : List ℕ) (all : ℕ)
    → ((j : ℕ) → (s j).number ≡ get_or made j 0) → ((j : ℕ) → count W (s j) ≡ get_or ints j 0 + get_or exts j 0)
    → ((i j : ℕ) → i < all → j < all → get_or made i 0 ≡ get_or made j 0 → i ≡ j)
    → (j : ℕ) → j < all → count_of W (get_or made j 0) (tab_i all 0 s) ≡ get_or ints j 0 + get_or exts j 0
count_now W s made ints exts all named counted apart j l =
    ap (λ (x : ℕ). count_of W x (tab_i all 0 s)) (sym (named j))
    ∙ count_slots W s j all 0 (omega arith) (omega arith) (λ g a b e. apart j g l (omega arith) (sym (named j) ∙ e ∙ named g))
    ∙ counted j
