-- A column laid over another from place `to` on, read cell by cell and row by row: before it, in it and behind it. Assumes nothing.
use mathlib.Core.Path.{◌≡◌, refl, sym, ap, ◌∙◌}
use mathlib.Core.List.{List, [], ◌∷◌, map}
use Prim.Native.Nat.{ℕ, zero, suc, ◌+◌, ◌-◌, ◌*◌, ◌<◌, ◌≤◌}
use native.Mathlib.Nat.{not-suc-le-zero, le_of_suc-le-suc}
use native.Mathlib.Omega.{arith}
use lib.Dec.{ltb}
use lib.ListN.{length, get_or, take, length-map}
use lib.Seq.{length-take-le, get_or-take, ext_get_or}
use borrow.Author.Tests.{ltb-true, ltb-false}
use Rattle.numbers.proofs.Bytes.{by_bool}
use Rattle.columns.specs.Laid.{laid_at}
use Rattle.columns.specs.Rows.{row_at}
use Rattle.columns.proofs.Laid.{length_laid, get_d_laid_before, get_d_laid_in, get_d_laid_behind}
use Rattle.columns.proofs.Rows.{length_row, row_cell}
use Rattle.queues.specs.Good.{Zeros}
use Rattle.slots.specs.Join.{moved, raised}
use Rattle.group_rules.proofs.Behind.{Owners}

-- n cells of `from` stand in `made` from place `to` on, the others are those of `col`
pub record Follows (to n : ℕ) (from col made : List ℕ) : Type 0 where
  pub long : length made ≡ length col
  pub fits : to + n ≤ length col
  pub enough : n ≤ length from
  pub before : (i : ℕ) → i < to → get_or made i 0 ≡ get_or col i 0
  pub within : (i : ℕ) → i < n → get_or made (to + i) 0 ≡ get_or from i 0
  pub behind : (i : ℕ) → to + n ≤ i → get_or made i 0 ≡ get_or col i 0

pub laid_follows : (to : ℕ) (xs col : List ℕ) → to + length xs ≤ length col → Follows to (length xs) xs col (laid_at to xs col)
laid_follows to xs col h = record {
  long = length_laid to xs col h;
  fits = h;
  enough = omega arith;
  before = λ i. get_d_laid_before to xs col h i 0;
  within = λ i. get_d_laid_in to xs col h i 0;
  behind = λ i. get_d_laid_behind to xs col h i 0;
}

module _ (to n : ℕ) (from col : List ℕ) (source : n ≤ length from) (target : to + n ≤ length col) where
  size : length (take n from) ≡ n
  size = length-take-le n from source

  pub moved_follows : Follows to n from col (moved to n from col)
  moved_follows =
      let f = laid_follows to (take n from) col (omega (arith, size)) in
      record {
        long = f.long;
        fits = target;
        enough = source;
        before = f.before;
        within = λ i l. f.within i (omega (arith, size)) ∙ get_or-take n from i 0 l;
        behind = λ i l. f.behind i (omega (arith, size));
      }

-- ---- raised

abbrev pub up : (by n : ℕ) → List ℕ → List ℕ
up by n from = map (λ x. x + by) (take n from)

get_d_raised : (by n i : ℕ) (xs : List ℕ) → i < n → n ≤ length xs → get_or (up by n xs) i 0 ≡ get_or xs i 0 + by
get_d_raised by zero i xs l h = absurd (not-suc-le-zero l)
get_d_raised by (suc n) i [] l h = absurd (not-suc-le-zero h)
get_d_raised by (suc n) zero (x ∷ xs) l h = refl
get_d_raised by (suc n) (suc i) (x ∷ xs) l h = get_d_raised by n i xs (le_of_suc-le-suc l) (le_of_suc-le-suc h)

module _ (by to n : ℕ) (from col : List ℕ) (source : n ≤ length from) (target : to + n ≤ length col) where
  size' : length (up by n from) ≡ n
  size' = length-map (take n from) (λ x. x + by) ∙ length-take-le n from source

  pub raised_follows : Follows to n (up by n from) col (raised by to n from col)
  raised_follows = rw size' at (laid_follows to (up by n from) col (omega (arith, size')))

  -- owners behind owners
  pub raised_owners : ((i : ℕ) → i < to → get_or col i 0 < by) → Owners by to n (raised by to n from col) col from
  raised_owners low =
      let f = raised_follows in
      record {
        long = omega (arith, f.long);
        long·fore = omega arith;
        long·aft = source;
        same = f.before;
        up = λ j l. f.within j l ∙ get_d_raised by n j from l source;
        low = low;
      }

-- ---- rows

row_same : (a b : List ℕ) (i k : ℕ) → 32 * i + 32 ≤ length a → 32 * k + 32 ≤ length b
    → ((j : ℕ) → j < 32 → get_or a (32 * i + j) 0 ≡ get_or b (32 * k + j) 0) → row_at a i ≡ row_at b k
row_same a b i k x y h =
    let wide = length_row a i x in
    ext_get_or 0 (row_at a i) (row_at b k) (wide ∙ sym (length_row b k y))
    (λ j l. let z : j < 32 = omega arith in row_cell a i j z ∙ h j z ∙ sym (row_cell b k j z))

module _ (to n : ℕ) {from col made : List ℕ} (f : Follows (32 * to) (32 * n) from col made) where
  pub row_fore : (i : ℕ) → i < to → row_at made i ≡ row_at col i
  row_fore i l =
      row_same made col i i (omega (arith, f.long, f.fits)) (omega (arith, f.fits)) (λ j h. f.before (32 * i + j) (omega arith))

  pub row_aft : (i : ℕ) → i < n → row_at made (to + i) ≡ row_at from i
  row_aft i l =
      row_same made from (to + i) i (omega (arith, f.long, f.fits)) (omega (arith, f.enough))
      (λ j h. let z : 32 * (to + i) + j ≡ 32 * to + (32 * i + j) = omega arith in ap (λ (k : ℕ). get_or made k 0) z ∙ f.within (32 * i + j) (omega arith))

-- ---- the cells behind stay clear
pub zeros_behind : {to n : ℕ} {from col made : List ℕ} → Follows to n from col made → (first last first' : ℕ) → first' ≡ to + n → first ≤ first'
    → Zeros col first last → Zeros made first' last
zeros_behind f first last first' e h z = λ i a l. f.behind i (omega arith) ∙ z i (omega arith) l

-- ---- what holds of the cells of both

pub each_cell : {to n : ℕ} {from col made : List ℕ} → Follows to n from col made → (most : ℕ)
    → ((i : ℕ) → i < to → get_or col i 0 ≤ most) → ((i : ℕ) → i < n → get_or from i 0 ≤ most) → (i : ℕ) → i < to + n → get_or made i 0 ≤ most
each_cell {to} {n} {from} {col} {made} f most a b i l =
    by_bool (ltb i to)
    (λ t. let h = ltb-true i to t in omega (arith, f.before i h, a i h))
    (λ t. let h = ltb-false i to t in let z : i ≡ to + (i - to) = omega arith in
    omega (arith, ap (λ (k : ℕ). get_or made k 0) z, f.within (i - to) (omega arith), b (i - to) (omega arith)))

pub each_owner : {a m n : ℕ} {os fore aft : List ℕ} → Owners a m n os fore aft → (b : ℕ)
    → ((i : ℕ) → i < n → get_or aft i 0 < b) → (i : ℕ) → i < m + n → get_or os i 0 < a + b
each_owner {a} {m} {n} {os} {fore} {aft} o b h i l =
    by_bool (ltb i m)
    (λ t. let x = ltb-true i m t in omega (arith, o.same i x, o.low i x))
    (λ t. let x = ltb-false i m t in let z : i ≡ m + (i - m) = omega arith in
    omega (arith, ap (λ (k : ℕ). get_or os k 0) z, o.up (i - m) (omega arith), h (i - m) (omega arith)))
