-- What the loops keep that copy cells and rows one behind the other: what was copied lies over the column that is written (`Celling`,
-- `Rowing`). With it, one more that is laid behind, and one more that is gathered. Assumes nothing.
use mathlib.Core.Path.{◌≡◌, refl, sym, ap, ap₂, ◌∙◌}
use mathlib.Core.Bool.{Bool, true, false, cond}
use mathlib.Core.List.{List, [], ◌∷◌, ◌++◌, append_assoc, append-nil}
use Prim.Native.Nat.{ℕ, zero, suc, ◌+◌, ◌-◌, ◌*◌, ◌<◌, ◌≤◌}
use native.Mathlib.Nat.{add-zero, zero-add, le_refl}
use native.Mathlib.Numerals.{add-one}
use native.Mathlib.Omega.{arith}
use lib.Dec.{ltb}
use borrow.Author.Tests.{lt-ltb, le-ltb}
use lib.ListN.{length, get_or, set, take, drop, length-set, length-append}
use lib.Seq.{take-add}
use Rattle.numbers.proofs.Bytes.{by_bool}
use Rattle.columns.specs.Lists.{tab_i, gather, rank}
use Rattle.columns.specs.Laid.{laid_at}
use Rattle.columns.specs.Rows.{row_at, flat}
use Rattle.columns.proofs.Laid.{length_laid, take_laid, middle_laid, drop_laid, laid_none, laid_one}
use Rattle.columns.proofs.Tabs.{length_tab, tab_snoc}
use Rattle.columns.proofs.Gathers.{length_gather}
use Rattle.columns.proofs.Rows.{flat_append}
use Rattle.settle.specs.Copies.{party_row}

-- a list laid behind one that was laid before
pub laid_more : {A : Type 0} (at k : ℕ) (xs zs ys : List A) → k ≡ at + length xs → k + length zs ≤ length ys
    → laid_at k zs (laid_at at xs ys) ≡ laid_at at (xs ++ zs) ys
unfolding laid_at
laid_more at k xs zs ys e h =
    let made = laid_at at xs ys in
    let fits : at + length xs ≤ length ys = omega arith in
    let both : at + length (xs ++ zs) ≡ k + length zs = omega (arith, length-append xs zs) in
    ap₂ ◌++◌
    (ap (λ (i : ℕ). take i made) e ∙ take-add at (length xs) made ∙ ap₂ ◌++◌ (take_laid at xs ys fits at (le_refl at)) (middle_laid at xs ys fits))
    (ap (λ l. zs ++ l) (drop_laid at xs ys fits (k + length zs) (omega arith)))
    ∙ append_assoc (take at ys) xs _
    ∙ ap (λ l. take at ys ++ l) (sym (append_assoc xs zs _) ∙ ap (λ (i : ℕ). (xs ++ zs) ++ drop i ys) (sym both))

-- one more gathered
module _ {A : Type 0} (t : ℕ → Bool) (f : ℕ → A) where
  gather_snoc : (m i k : ℕ) → k ≡ i + m → gather t f (suc m) i ≡ gather t f m i ++ cond (t k) (f k ∷ []) []
  unfolding gather
  gather_snoc zero i k e = let z : k ≡ i = omega arith in rw z
  gather_snoc (suc m) i k e =
      by_bool (t i)
      (λ b. simp b (ap (λ l. f i ∷ l) (gather_snoc m (i + 1) k (omega arith))))
      (λ b. simp b (gather_snoc m (i + 1) k (omega arith)))

  pub gather_keeps : (k : ℕ) → t k ≡ true → gather t f (k + 1) 0 ≡ gather t f k 0 ++ (f k ∷ [])
  gather_keeps k e = rw add-one (gather_snoc k 0 k (omega arith) ∙ rw e)

  pub gather_skips : (k : ℕ) → t k ≡ false → gather t f (k + 1) 0 ≡ gather t f k 0
  gather_skips k e = rw add-one (gather_snoc k 0 k (omega arith) ∙ rw e (append-nil (gather t f k 0)))

  pub gathered : (n : ℕ) → length (gather t f n 0) ≡ rank t n
  unfolding rank
  gathered n = sym (length_gather t f n 0 n (sym (zero-add n)) ∙ zero-add (length (gather t f n 0)))

pub tab_more : {A : Type 0} (f : ℕ → A) (k i : ℕ) → tab_i (k + 1) i f ≡ tab_i k i f ++ (f (i + k) ∷ [])
tab_more f k i = rw add-one (tab_snoc k i (i + k) f refl)

-- ---- cells

pub record Celling (xs : List ℕ) (at : ℕ) (ys₀ ys : List ℕ) : Type 0 where
  pub long : length ys ≡ length ys₀
  pub cells : ys ≡ laid_at at xs ys₀

pub cell_start : (at : ℕ) (ys : List ℕ) → Celling [] at ys ys
cell_start at ys = record { long = refl; cells = sym (laid_none at ys) }

pub cell_step : {xs : List ℕ} {at : ℕ} {ys₀ ys : List ℕ} → Celling xs at ys₀ ys → (k x : ℕ) → k ≡ at + length xs → k < length ys₀
    → Celling (xs ++ (x ∷ [])) at ys₀ (set ys k x)
cell_step {xs} {at} {ys₀} {ys} v k x e l = record {
  long = length-set ys k x ∙ v.long;
  cells = sym (laid_one k x ys (omega (arith, v.long))) ∙ ap (laid_at k (x ∷ [])) v.cells ∙ laid_more at k xs (x ∷ []) ys₀ e (omega arith);
}

-- ---- rows

pub record Rowing (rows : List (List ℕ)) (at : ℕ) (ys₀ ys : List ℕ) : Type 0 where
  pub long : length ys ≡ length ys₀
  pub wide : length (flat rows) ≡ 32 * length rows
  pub cells : ys ≡ laid_at (32 * at) (flat rows) ys₀

pub row_start : (at : ℕ) (ys : List ℕ) → Rowing [] at ys ys
unfolding flat
row_start at ys = record { long = refl; wide = refl; cells = sym (laid_none (32 * at) ys) }

flat_one : (x : List ℕ) → flat (x ∷ []) ≡ x
unfolding flat
flat_one x = append-nil x

pub row_step : {rows : List (List ℕ)} {at : ℕ} {ys₀ ys : List ℕ} → Rowing rows at ys₀ ys → (k : ℕ) (x : List ℕ) → k ≡ at + length rows → length x ≡ 32
    → 32 * k + 32 ≤ length ys₀ → Rowing (rows ++ (x ∷ [])) at ys₀ (laid_at (32 * k) x ys)
row_step {rows} {at} {ys₀} {ys} v k x e w l =
    let both : flat (rows ++ (x ∷ [])) ≡ flat rows ++ x = flat_append rows (x ∷ []) ∙ ap (λ r. flat rows ++ r) (flat_one x) in
    record {
      long = length_laid (32 * k) x ys (omega (arith, v.long)) ∙ v.long;
      wide = ap length both ∙ omega (arith, length-append (flat rows) x, length-append rows (x ∷ []), v.wide);
      cells = ap (laid_at (32 * k) x) v.cells
          ∙ laid_more (32 * at) (32 * k) (flat rows) x ys₀ (omega (arith, v.wide)) (omega arith)
          ∙ ap (λ r. laid_at (32 * at) r ys₀) (sym both);
    }

-- ---- n cells or rows in a row, the first of index `first`

pub record Cells (f : ℕ → ℕ) (first n at : ℕ) (ys₀ ys : List ℕ) (k : ℕ) : Type 0 where
  pub within : k ≤ n
  pub done : Celling (tab_i k first f) at ys₀ ys

module _ (f : ℕ → ℕ) (first n at : ℕ) (ys₀ : List ℕ) where
  pub cells_start : Cells f first n at ys₀ ys₀ 0
  unfolding tab_i
  cells_start = record { within = omega arith; done = cell_start at ys₀ }

  module _ {ys : List ℕ} {k : ℕ} (v : Cells f first n at ys₀ ys k) where
    pub cells_step : k < n → at + n ≤ length ys₀ → (x : ℕ) → x ≡ f (first + k) → Cells f first n at ys₀ (set ys (at + k) x) (k + 1)
    cells_step l h x e = record {
      within = omega arith;
      done = rw (tab_more f k first, ← e) (cell_step v.done (at + k) x (ap (λ (i : ℕ). at + i) (sym (length_tab k first f))) (omega arith));
    }

    pub cells_end : n ≤ k → ys ≡ laid_at at (tab_i n first f) ys₀
    cells_end h = let e : k ≡ n = omega (arith, v.within) in v.done.cells ∙ ap (λ (i : ℕ). laid_at at (tab_i i first f) ys₀) e

pub record RowsDone (f : ℕ → List ℕ) (first n at : ℕ) (ys₀ ys : List ℕ) (k : ℕ) : Type 0 where
  pub within : k ≤ n
  pub done : Rowing (tab_i k first f) at ys₀ ys

module _ (f : ℕ → List ℕ) (first n at : ℕ) (ys₀ : List ℕ) where
  pub rows_start : RowsDone f first n at ys₀ ys₀ 0
  unfolding tab_i
  rows_start = record { within = omega arith; done = row_start at ys₀ }

  module _ {ys : List ℕ} {k : ℕ} (v : RowsDone f first n at ys₀ ys k) where
    pub rows_step : k < n → 32 * (at + n) ≤ length ys₀ → (x : List ℕ) → x ≡ f (first + k) → length x ≡ 32
        → RowsDone f first n at ys₀ (laid_at (32 * (at + k)) x ys) (k + 1)
    rows_step l h x e w = record {
      within = omega arith;
      done = rw (tab_more f k first, ← e) (row_step v.done (at + k) x (ap (λ (i : ℕ). at + i) (sym (length_tab k first f))) w (omega arith));
    }

    pub rows_end : n ≤ k → ys ≡ laid_at (32 * at) (flat (tab_i n first f)) ys₀
    rows_end h = let e : k ≡ n = omega (arith, v.within) in v.done.cells ∙ ap (λ (i : ℕ). laid_at (32 * at) (flat (tab_i i first f)) ys₀) e

-- ---- the account of a party

pub party_low : (accounts others : List ℕ) (p : ℕ) → p < 256 → party_row accounts others p ≡ row_at accounts p
unfolding party_row
party_low accounts others p l = rw (lt-ltb p 256 l)

pub party_high : (accounts others : List ℕ) (p : ℕ) → 256 ≤ p → party_row accounts others p ≡ row_at others (p - 256)
unfolding party_row
party_high accounts others p l = rw (le-ltb p 256 l)
