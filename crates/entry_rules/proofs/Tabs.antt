-- Tables renamed, searched and kept from; a table laid over a column, cell by cell. Assumes nothing.
use mathlib.Core.Path.{◌≡◌, refl, sym, ap, ap₂, ◌∙◌}
use mathlib.Core.Bool.{Bool, true, false, cond}
use mathlib.Core.Logic.{◌⊎◌, inl, inr, ⊎_elim}
use mathlib.Core.List.{List, [], ◌∷◌, map}
use Prim.Native.Nat.{ℕ, zero, suc, ◌+◌, ◌<◌, ◌≤◌}
use native.Mathlib.Nat.{not-suc-le-zero, le_refl, zero-add}
use native.Mathlib.Omega.{arith}
use lib.Dec.{eqb}
use lib.ListN.{length, get_or, take}
use borrow.Author.Tests.{eq-eqb, ne_eqb, eqb-true, eqb-false}
use Rattle.numbers.proofs.Bytes.{by_bool}
use Rattle.rules.specs.World.{Each, keep, is_nil}
use Rattle.rules.specs.Queues.{is_in}
use Rattle.columns.specs.Lists.{tab_i, pick, gather}
use Rattle.columns.specs.Laid.{laid_at}
use Rattle.columns.proofs.Tabs.{later, length_tab, get_d_tab}
use Rattle.columns.proofs.Laid.{length_laid, middle_laid, get_d_laid_before, get_d_laid_in, get_d_laid_behind}
use Rattle.meaning.specs.Meaning.{Numbers}

module _ {A B : Type 0} (h : A → B) where
  pub map_tab : (m i : ℕ) (f : ℕ → A) → map h (tab_i m i f) ≡ tab_i m i (λ (j : ℕ). h (f j))
  unfolding tab_i
  map_tab zero i f = refl
  map_tab (suc m) i f = ap (λ (l : List B). h (f i) ∷ l) (map_tab m (i + 1) f)

  pub map_pick : (f : ℕ → A) (q m i : ℕ) (os : List ℕ) → map h (pick f q m i os) ≡ pick (λ (j : ℕ). h (f j)) q m i os
  unfolding pick
  map_pick f q zero i os = refl
  map_pick f q (suc m) i [] = refl
  map_pick f q (suc m) i (o ∷ os) =
      by_bool (eqb o q)
      (λ t. rw t (ap (λ (l : List B). h (f i) ∷ l) (map_pick f q m (i + 1) os)))
      (λ t. rw t (map_pick f q m (i + 1) os))

  -- what is kept of a table, renamed
  pub map_keep : (f : ℕ → A) (p : A → Bool) (t : ℕ → Bool) (m i : ℕ) → ((j : ℕ) → i ≤ j → j < i + m → p (f j) ≡ t j)
      → map h (keep p (tab_i m i f)) ≡ gather t (λ (j : ℕ). h (f j)) m i
  unfolding keep tab_i gather
  map_keep f p t zero i e = refl
  map_keep f p t (suc m) i e =
      let go = map_keep f p t m (i + 1) (later m i e) in
      let here = e i (le_refl i) (omega arith) in
      by_bool (t i)
      (λ y. rw (here, y) (ap (λ (l : List B). h (f i) ∷ l) go))
      (λ y. rw (here, y) go)

pub each_tab : {A : Type 0} (P : A → Type 0) (m i : ℕ) (f : ℕ → A) → ((j : ℕ) → i ≤ j → j < i + m → P (f j)) → Each P (tab_i m i f)
unfolding tab_i
each_tab P zero i f h = tt
each_tab P (suc m) i f h = (h i (le_refl i) (omega arith), each_tab P m (i + 1) f (later m i h))

pub each_at : {A : Type 0} (P : A → Type 0) (m i : ℕ) (f : ℕ → A) → Each P (tab_i m i f) → (j : ℕ) → i ≤ j → j < i + m → P (f j)
unfolding tab_i
each_at P zero i f h j a b = absurd (not-suc-le-zero {n = 0} (omega arith))
each_at P (suc m) i f h j a b =
    by_bool (eqb i j)
    (λ t. rw (eqb-true i j t) at h.0)
    (λ t. let n = eqb-false i j t in each_at P m (i + 1) f h.1 j (omega arith) (omega arith))

-- an index of a table where a number stands, or none
abbrev pub Stands : (f : ℕ → ℕ) (p m i : ℕ) → Type 0
Stands f p m i = (j : ℕ) × (i ≤ j) × (j < i + m) × (f j ≡ p)

pub search : (f : ℕ → ℕ) (p m i : ℕ) → Stands f p m i ⊎ ((j : ℕ) → i ≤ j → j < i + m → f j ≡ p → ⊥)
search f p zero i = inr (λ j a b e. omega arith)
search f p (suc m) i =
    by_bool (eqb (f i) p)
    (λ t. inl (i, le_refl i, omega arith, eqb-true (f i) p t))
    (λ t. ⊎_elim
    (λ w. inl (w.0, omega (arith, w.1), omega (arith, w.2), w.3))
    (λ n. inr (λ j a b e. by_bool (eqb i j)
    (λ u. eqb-false (f i) p t (ap f (eqb-true i j u) ∙ e))
    (λ u. let z = eqb-false i j u in n j (omega arith) (omega arith) e)))
    (search f p m (i + 1)))

module _ (ext : ℕ → Bool) (time : ℕ → ℕ) (f : ℕ → ℕ) (p : ℕ) where
  pub in_tab : (m i j : ℕ) → i ≤ j → j < i + m → f j ≡ p → is_in (Numbers ext time) p (tab_i m i f) ≡ true
  unfolding is_in tab_i
  in_tab zero i j a b e = absurd (not-suc-le-zero {n = 0} (omega arith))
  in_tab (suc m) i j a b e =
      by_bool (eqb p (f i))
      (λ t. rw t)
      (λ t. rw t (in_tab m (i + 1) j (let n : i ≡ j → ⊥ = λ z. eqb-false p (f i) t (sym (ap f z ∙ e)) in omega arith) (omega arith) e))

  pub out_of_tab : (m i : ℕ) → ((j : ℕ) → i ≤ j → j < i + m → f j ≡ p → ⊥) → is_in (Numbers ext time) p (tab_i m i f) ≡ false
  unfolding is_in tab_i
  out_of_tab zero i h = refl
  out_of_tab (suc m) i h =
      rw (ne_eqb p (f i) (λ e. h i (le_refl i) (omega arith) (sym e))) (out_of_tab m (i + 1) (later m i h))

-- ---- a table laid over a column
module _ (f : ℕ → ℕ) (at n : ℕ) (ys : List ℕ) (fits : at + n ≤ length ys) where
  room : at + length (tab_i n 0 f) ≤ length ys
  room = omega (arith, length_tab n 0 f)

  pub laid_long : length (laid_at at (tab_i n 0 f) ys) ≡ length ys
  laid_long = length_laid at (tab_i n 0 f) ys room

  pub laid_cell : (k : ℕ) → k < n → get_or (laid_at at (tab_i n 0 f) ys) (at + k) 0 ≡ f k
  laid_cell k l = get_d_laid_in at (tab_i n 0 f) ys room k 0 (omega (arith, length_tab n 0 f)) ∙ get_d_tab n 0 k k f 0 (sym (zero-add k)) l

  pub laid_before : (k : ℕ) → k < at → get_or (laid_at at (tab_i n 0 f) ys) k 0 ≡ get_or ys k 0
  laid_before k l = get_d_laid_before at (tab_i n 0 f) ys room k 0 l

  pub laid_behind : (k : ℕ) → at + n ≤ k → get_or (laid_at at (tab_i n 0 f) ys) k 0 ≡ get_or ys k 0
  laid_behind k l = get_d_laid_behind at (tab_i n 0 f) ys room k 0 (omega (arith, length_tab n 0 f))

-- from the first cell on
module _ (f : ℕ → ℕ) (n : ℕ) (ys : List ℕ) (fits : n ≤ length ys) where
  pub front_cell : (k : ℕ) → k < n → get_or (laid_at 0 (tab_i n 0 f) ys) k 0 ≡ f k
  front_cell k l = rw zero-add at (laid_cell f 0 n ys (omega arith) k l)

  pub front_take : take n (laid_at 0 (tab_i n 0 f) ys) ≡ tab_i n 0 f
  front_take =
      ap (λ (k : ℕ). take k (laid_at 0 (tab_i n 0 f) ys)) (sym (length_tab n 0 f))
      ∙ middle_laid 0 (tab_i n 0 f) ys (omega (arith, length_tab n 0 f))

pub nil_map : {A B : Type 0} (h : A → B) (l : List A) → is_nil (map h l) ≡ is_nil l
unfolding is_nil
nil_map h [] = refl
nil_map h (x ∷ xs) = refl
