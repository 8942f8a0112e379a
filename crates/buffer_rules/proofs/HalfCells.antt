-- The cells that a transaction copies and clears, column by column and over any number of cells: two columns that agree below a count, the
-- live half and the backup room after each copy, and the numbers. Assumes nothing.
use mathlib.Core.Path.{◌≡◌, sym, ap, ◌∙◌}
use mathlib.Core.List.{List}
use Prim.Native.Nat.{ℕ, ◌+◌, ◌*◌, ◌<◌, ◌≤◌}
use native.Mathlib.Nat.{zero-add}
use native.Mathlib.Omega.{arith}
use lib.Dec.{ltb}
use lib.ListN.{length, get_or, set, drop, replicate, length-drop, length-set, length-replicate, get_or-replicate}
use lib.Seq.{get_or-drop, get_or-set_same, get_or-set_other, drop-set-lt, ext_get_or}
use borrow.Author.Tests.{ltb-true, ltb-false}
use Rattle.numbers.proofs.Bytes.{by_bool}
use Rattle.columns.specs.Rows.{row_at}
use Rattle.columns.proofs.Laid.{length_laid, get_d_laid_in, get_d_laid_behind}
use Rattle.columns.proofs.Rows.{length_row, row_cell}
use Rattle.queues.specs.Good.{Zeros}
use Rattle.queues.specs.Transact.{copied, cleared}
use Rattle.queues.proofs.Copied.{length_copied, drop_copied, copied_before, copied_in, copied_behind}

-- ---- two columns that agree below n

pub record SameTo (n : ℕ) (xs ys : List ℕ) : Type 0 where
  pub long : n ≤ length xs
  pub long' : n ≤ length ys
  pub cells : (i : ℕ) → i < n → get_or xs i 0 ≡ get_or ys i 0

-- so do their rows
pub same_row : {n : ℕ} {xs ys : List ℕ} → SameTo (32 * n) xs ys → (i : ℕ) → i < n → row_at xs i ≡ row_at ys i
same_row {n} {xs} {ys} s i l =
    let x = length_row xs i (omega (arith, s.long)) in
    let y = length_row ys i (omega (arith, s.long')) in
    ext_get_or 0 (row_at xs i) (row_at ys i) (x ∙ sym y)
    (λ j k. let w : j < 32 = omega arith in row_cell xs i j w ∙ s.cells (32 * i + j) (omega arith) ∙ sym (row_cell ys i j w))

-- ---- a column of two halves, the second of which begins at t

-- begin: n cells copied down
module _ (t n : ℕ) (xs : List ℕ) (few : n ≤ t) (fits : t + n ≤ length xs) where
  pub down_length : length (copied 0 t n xs) ≡ length xs
  down_length = length_copied 0 t n xs (omega arith) fits

  pub down_live : SameTo n (copied 0 t n xs) xs
  down_live = record { long = omega (arith, down_length); long' = omega arith; cells = λ i l. copied_before 0 t n xs (omega arith) fits i (omega arith) }

  pub down_kept : SameTo n (drop t (copied 0 t n xs)) xs
  down_kept = record {
    long = simp length-drop (omega (arith, down_length));
    long' = omega arith;
    cells = λ i l. get_or-drop t (copied 0 t n xs) i 0 ∙ copied_in 0 t n xs (omega arith) fits i l ∙ ap (λ j. get_or xs j 0) (zero-add i);
  }

  pub down_blank : (m : ℕ) → Zeros xs m t → Zeros (copied 0 t n xs) m t
  down_blank m z i a b = copied_before 0 t n xs (omega arith) fits i b ∙ z i a b

-- rollback: m cells made fresh, n cells copied up
module _ (t m n : ℕ) (xs : List ℕ) (held : m ≤ t) (few : n ≤ t) (fits : t + t ≤ length xs) where
  bare_length : length (cleared m xs) ≡ length xs
  bare_length = length_laid 0 (replicate m 0) xs (rw length-replicate (omega arith))

  bare_in : (i : ℕ) → i < m → get_or (cleared m xs) i 0 ≡ 0
  bare_in i l =
      ap (λ j. get_or (cleared m xs) j 0) (sym (zero-add i))
      ∙ get_d_laid_in 0 (replicate m 0) xs (rw length-replicate (omega arith)) i 0 (rw length-replicate l)
      ∙ get_or-replicate m i 0 0 l

  bare_behind : (i : ℕ) → m ≤ i → get_or (cleared m xs) i 0 ≡ get_or xs i 0
  bare_behind i l = get_d_laid_behind 0 (replicate m 0) xs (rw length-replicate (omega arith)) i 0 (rw length-replicate (omega arith))

  pub up_length : length (copied t 0 n (cleared m xs)) ≡ length xs
  up_length = length_copied t 0 n (cleared m xs) (omega (arith, bare_length)) (omega (arith, bare_length)) ∙ bare_length

  pub up_live : SameTo n (copied t 0 n (cleared m xs)) (drop t xs)
  up_live = record {
    long = omega (arith, up_length);
    long' = simp length-drop (omega arith);
    cells = λ i l.
        ap (λ j. get_or (copied t 0 n (cleared m xs)) j 0) (sym (zero-add i))
        ∙ copied_in t 0 n (cleared m xs) (omega (arith, bare_length)) (omega (arith, bare_length)) i l
        ∙ bare_behind (t + i) (omega arith)
        ∙ sym (get_or-drop t xs i 0);
  }

  pub up_blank : Zeros xs m t → Zeros (copied t 0 n (cleared m xs)) n t
  up_blank z i a b =
      copied_behind t 0 n (cleared m xs) (omega (arith, bare_length)) (omega (arith, bare_length)) i (omega arith)
      ∙ by_bool (ltb i m) (λ e. bare_in i (ltb-true i m e)) (λ e. bare_behind i (ltb-false i m e) ∙ z i (ltb-false i m e) b)

-- ---- the numbers

module _ (ns : List ℕ) (many : length ns ≡ 528) where
  -- after begin: the numbers to 7 and the last stay, the mark is 1, and 9 to 14 are 2 to 7
  module _ where
    wide : length (copied 2 9 6 ns) ≡ 528
    wide = length_copied 2 9 6 ns (omega arith) (omega arith) ∙ many

    pub begun_length : length (set (copied 2 9 6 ns) 8 1) ≡ 528
    begun_length = length-set (copied 2 9 6 ns) 8 1 ∙ wide

    pub begun_low : (k : ℕ) → k < 8 → get_or (set (copied 2 9 6 ns) 8 1) k 0 ≡ get_or ns k 0
    begun_low k l = get_or-set_other (copied 2 9 6 ns) 8 k 1 0 (λ e. omega arith) ∙ copied_before 2 9 6 ns (omega arith) (omega arith) k (omega arith)

    pub begun_mark : get_or (set (copied 2 9 6 ns) 8 1) 8 0 ≡ 1
    begun_mark = get_or-set_same (copied 2 9 6 ns) 8 1 0 (omega (arith, wide))

    pub begun_high : (k : ℕ) → k < 6 → get_or (set (copied 2 9 6 ns) 8 1) (9 + k) 0 ≡ get_or ns (2 + k) 0
    begun_high k l = get_or-set_other (copied 2 9 6 ns) 8 (9 + k) 1 0 (λ e. omega arith) ∙ copied_in 2 9 6 ns (omega arith) (omega arith) k l

    pub begun_index : drop 16 (set (copied 2 9 6 ns) 8 1) ≡ drop 16 ns
    begun_index = drop-set-lt 16 (copied 2 9 6 ns) 8 1 (omega arith) ∙ drop_copied 2 9 6 ns (omega arith) (omega arith) 16 (omega arith)

    pub begun_last : get_or (set (copied 2 9 6 ns) 8 1) 15 0 ≡ get_or ns 15 0
    begun_last = get_or-set_other (copied 2 9 6 ns) 8 15 1 0 (λ e. omega arith) ∙ copied_behind 2 9 6 ns (omega arith) (omega arith) 15 (omega arith)

  -- after rollback: 0, 1 and the last stay, 2 to 7 are 9 to 14, and the mark is 0
  module _ where
    wide' : length (copied 9 2 6 ns) ≡ 528
    wide' = length_copied 9 2 6 ns (omega arith) (omega arith) ∙ many

    pub rolled_length : length (set (copied 9 2 6 ns) 8 0) ≡ 528
    rolled_length = length-set (copied 9 2 6 ns) 8 0 ∙ wide'

    pub rolled_low : (k : ℕ) → k < 2 → get_or (set (copied 9 2 6 ns) 8 0) k 0 ≡ get_or ns k 0
    rolled_low k l = get_or-set_other (copied 9 2 6 ns) 8 k 0 0 (λ e. omega arith) ∙ copied_before 9 2 6 ns (omega arith) (omega arith) k (omega arith)

    pub rolled_mark : get_or (set (copied 9 2 6 ns) 8 0) 8 0 ≡ 0
    rolled_mark = get_or-set_same (copied 9 2 6 ns) 8 0 0 (omega (arith, wide'))

    pub rolled_high : (k : ℕ) → k < 6 → get_or (set (copied 9 2 6 ns) 8 0) (2 + k) 0 ≡ get_or ns (9 + k) 0
    rolled_high k l = get_or-set_other (copied 9 2 6 ns) 8 (2 + k) 0 0 (λ e. omega arith) ∙ copied_in 9 2 6 ns (omega arith) (omega arith) k l

    pub rolled_last : get_or (set (copied 9 2 6 ns) 8 0) 15 0 ≡ get_or ns 15 0
    rolled_last = get_or-set_other (copied 9 2 6 ns) 8 15 0 0 (λ e. omega arith) ∙ copied_behind 9 2 6 ns (omega arith) (omega arith) 15 (omega arith)
