-- Laws of rows: a flat column through its rows and back, row by row, cut at a row's edge, and with rows laid over it. Each holds wherever
-- the column is long enough for the rows that are spoken of. Assumes nothing.
use mathlib.Core.Path.{◌≡◌, refl, sym, ap, ap₂, ◌∙◌}
use mathlib.Core.List.{List, [], ◌∷◌, ◌++◌, append-nil, append_assoc}
use Prim.Native.Nat.{ℕ, zero, suc, ◌+◌, ◌-◌, ◌*◌, ◌<◌, ◌≤◌}
use native.Mathlib.Nat.{not-suc-le-zero, le_of_suc-le-suc}
use native.Mathlib.Omega.{arith}
use lib.ListN.{length, get_or, take, drop, set, replicate, length-append, length-drop, length-replicate, take-append-drop, replicate-append-replicate}
use lib.Seq.{length-take-le, take_all, take-append-le, drop-append-le, take_at, drop_at, drop-drop, take-add, get_or-take, get_or-drop}
use Rattle.numbers.specs.Bytes.{zeros}
use Rattle.columns.specs.Laid.{laid_at}
use Rattle.columns.proofs.Laid.{laid_one}
use Rattle.columns.specs.Rows.{row_at, rows_of, flat}

pub length_zeros : length zeros ≡ 32
unfolding zeros
length_zeros = refl

pub length_rows : (n : ℕ) (bytes : List ℕ) → length (rows_of n bytes) ≡ n
unfolding rows_of
length_rows zero bytes = refl
length_rows (suc n) bytes = ap suc (length_rows n (drop 32 bytes))

pub length_row : (bytes : List ℕ) (i : ℕ) → 32 * i + 32 ≤ length bytes → length (row_at bytes i) ≡ 32
unfolding row_at
length_row bytes i h = length-take-le 32 (drop (32 * i) bytes) (simp length-drop (omega arith))

-- a byte of a row
pub row_cell : (bytes : List ℕ) (i j : ℕ) → j < 32 → get_or (row_at bytes i) j 0 ≡ get_or bytes (32 * i + j) 0
unfolding row_at
row_cell bytes i j l = get_or-take 32 (drop (32 * i) bytes) j 0 l ∙ get_or-drop (32 * i) bytes j 0

-- the bytes behind the first row and i more
next : (i : ℕ) (bytes : List ℕ) → drop (32 * i) (drop 32 bytes) ≡ drop (32 * suc i) bytes
next i bytes = let e : 32 + 32 * i ≡ 32 * suc i = omega arith in drop-drop (32 * i) 32 bytes ∙ ap (λ (k : ℕ). drop k bytes) e

pub get_d_rows : (n i : ℕ) (bytes d : List ℕ) → i < n → get_or (rows_of n bytes) i d ≡ row_at bytes i
unfolding rows_of row_at
get_d_rows zero i bytes d l = absurd (not-suc-le-zero l)
get_d_rows (suc n) zero bytes d l = refl
get_d_rows (suc n) (suc i) bytes d l = get_d_rows n i (drop 32 bytes) d (le_of_suc-le-suc l) ∙ ap (take 32) (next i bytes)

-- ---- cut at a row's edge

pub rows_drop : (i m k : ℕ) (bytes : List ℕ) → k ≡ i + m → rows_of m (drop (32 * i) bytes) ≡ drop i (rows_of k bytes)
unfolding rows_of
rows_drop zero m k bytes e = let z : k ≡ m = omega arith in rw z
rows_drop (suc i) m zero bytes e = absurd (not-suc-le-zero {n = i + m} (omega arith))
rows_drop (suc i) m (suc k) bytes e = ap (rows_of m) (sym (next i bytes)) ∙ rows_drop i m k (drop 32 bytes) (omega arith)

pub rows_join : (n m k : ℕ) (xs ys : List ℕ) → length xs ≡ 32 * n → k ≡ n + m → rows_of k (xs ++ ys) ≡ rows_of n xs ++ rows_of m ys
unfolding rows_of
rows_join zero m k [] ys l e = let z : k ≡ m = omega arith in rw z
rows_join zero m k (x ∷ xs) ys l e = absurd (not-suc-le-zero {n = length xs} (omega arith))
rows_join (suc n) m zero xs ys l e = absurd (not-suc-le-zero {n = n + m} (omega arith))
rows_join (suc n) m (suc k) xs ys l e =
    let h : 32 ≤ length xs = omega arith in
    ap₂ ◌∷◌ (take-append-le 32 xs ys h)
    (ap (rows_of k) (drop-append-le 32 xs ys h) ∙ rows_join n m k (drop 32 xs) ys (simp length-drop (omega arith)) (omega arith))

pub rows_split : (n m k : ℕ) (bytes : List ℕ) → k ≡ n + m → rows_of k bytes ≡ rows_of n bytes ++ rows_of m (drop (32 * n) bytes)
unfolding rows_of
rows_split zero m k bytes e = let z : k ≡ m = omega arith in rw z
rows_split (suc n) m zero bytes e = absurd (not-suc-le-zero {n = n + m} (omega arith))
rows_split (suc n) m (suc k) bytes e =
    ap (λ (l : List (List ℕ)). take 32 bytes ∷ l)
    (rows_split n m k (drop 32 bytes) (omega arith) ∙ ap (λ (l : List ℕ). rows_of n (drop 32 bytes) ++ rows_of m l) (next n bytes))

pub rows_take : (n k : ℕ) (bytes : List ℕ) → n ≤ k → take n (rows_of k bytes) ≡ rows_of n bytes
rows_take n k bytes h = ap (take n) (rows_split n (k - n) k bytes (omega arith)) ∙ take_at (rows_of n bytes) _ n (length_rows n bytes)

-- n rows are made of 32 * n bytes
pub rows_first : (n : ℕ) (bytes : List ℕ) → 32 * n ≤ length bytes → rows_of n (take (32 * n) bytes) ≡ rows_of n bytes
unfolding rows_of
rows_first n bytes h =
    sym (ap (rows_of n) (sym (take-append-drop (32 * n) bytes))
    ∙ rows_join n 0 n (take (32 * n) bytes) (drop (32 * n) bytes) (length-take-le (32 * n) bytes h) (omega arith)
    ∙ append-nil (rows_of n (take (32 * n) bytes)))

-- ---- flat and back

pub flat_take : (k : ℕ) (bytes : List ℕ) → 32 * k ≤ length bytes → flat (rows_of k bytes) ≡ take (32 * k) bytes
unfolding rows_of flat
flat_take zero bytes h = refl
flat_take (suc k) bytes h =
    let e : 32 + 32 * k ≡ 32 * suc k = omega arith in
    ap (λ (l : List ℕ). take 32 bytes ++ l) (flat_take k (drop 32 bytes) (simp length-drop (omega arith)))
    ∙ sym (take-add 32 (32 * k) bytes)
    ∙ ap (λ (i : ℕ). take i bytes) e

pub flat_rows : (k : ℕ) (bytes : List ℕ) → length bytes ≡ 32 * k → flat (rows_of k bytes) ≡ bytes
flat_rows k bytes e = flat_take k bytes (omega arith) ∙ take_all (32 * k) bytes (omega arith)

pub flat_append : (rs ss : List (List ℕ)) → flat (rs ++ ss) ≡ flat rs ++ flat ss
unfolding flat
flat_append [] ss = refl
flat_append (r ∷ rs) ss = ap (λ (l : List ℕ). r ++ l) (flat_append rs ss) ∙ sym (append_assoc r (flat rs) (flat ss))

-- every row has 32 bytes
abbrev pub Wide : List (List ℕ) → Type 0
Wide [] = Unit {0}
Wide (r ∷ rs) = (length r ≡ 32) × Wide rs

pub length_flat : (rs : List (List ℕ)) → Wide rs → length (flat rs) ≡ 32 * length rs
unfolding flat
length_flat [] w = refl
length_flat (r ∷ rs) w = simp length-append (omega (arith, w.0, length_flat rs w.1))

pub rows_flat : (k : ℕ) (rs : List (List ℕ)) → length rs ≡ k → Wide rs → rows_of k (flat rs) ≡ rs
unfolding rows_of flat
rows_flat zero [] e w = refl
rows_flat zero (r ∷ rs) e w = absurd (not-suc-le-zero {n = length rs} (omega arith))
rows_flat (suc k) [] e w = absurd (not-suc-le-zero {n = k} (omega arith))
rows_flat (suc k) (r ∷ rs) e w =
    ap₂ ◌∷◌ (take_at r (flat rs) 32 w.0) (ap (rows_of k) (drop_at r (flat rs) 32 w.0) ∙ rows_flat k rs (omega arith) w.1)

-- ---- rows laid over a column

module _ (k to n : ℕ) (xs bytes : List ℕ) (whole : length xs ≡ 32 * n) (room : to + n ≤ k) (fits : 32 * k ≤ length bytes) where
  pub rows_laid : rows_of k (laid_at (32 * to) xs bytes) ≡ laid_at to (rows_of n xs) (rows_of k bytes)
  unfolding laid_at
  rows_laid =
      let m = k - (to + n) in
      let e : 32 * to + length xs ≡ 32 * (to + n) = omega arith in
      rows_join to (n + m) k (take (32 * to) bytes) _ (length-take-le (32 * to) bytes (omega arith)) (omega arith)
      ∙ ap₂ ◌++◌ (rows_first to bytes (omega arith) ∙ sym (rows_take to k bytes (omega arith)))
      (rows_join n m (n + m) xs _ whole refl
      ∙ ap (λ (l : List (List ℕ)). rows_of n xs ++ l) (rw (e, length_rows n xs) (rows_drop (to + n) m k bytes (omega arith))))

pub rows_zeros : (n : ℕ) → rows_of n (replicate (32 * n) 0) ≡ replicate n zeros
unfolding rows_of zeros
rows_zeros zero = refl
rows_zeros (suc n) =
    let e : 32 * suc n ≡ 32 + 32 * n = omega arith in
    ap (λ (k : ℕ). rows_of (suc n) (replicate k 0)) e
    ∙ ap (rows_of (suc n)) (sym (replicate-append-replicate {A = ℕ} 32 (32 * n) 0))
    ∙ ap (λ (l : List (List ℕ)). zeros ∷ l) (rows_zeros n)

module _ (k : ℕ) (bytes : List ℕ) (fits : 32 * k ≤ length bytes) where
  -- one row stored
  pub rows_set : (i : ℕ) (x : List ℕ) → i < k → length x ≡ 32 → rows_of k (laid_at (32 * i) x bytes) ≡ set (rows_of k bytes) i x
  unfolding rows_of
  rows_set i x l w =
      rows_laid k i 1 x bytes w (omega arith) fits
      ∙ rw (take_all 32 x (omega arith)) (laid_one i x (rows_of k bytes) (omega (arith, length_rows k bytes)))

  -- rows copied
  pub rows_copied : (from to n : ℕ) → from + n ≤ k → to + n ≤ k
      → rows_of k (laid_at (32 * to) (take (32 * n) (drop (32 * from) bytes)) bytes) ≡ laid_at to (take n (drop from (rows_of k bytes))) (rows_of k bytes)
  rows_copied from to n a b =
      let behind = drop (32 * from) bytes in
      let long : 32 * (k - from) ≤ length behind = simp length-drop (omega arith) in
      rows_laid k to n (take (32 * n) behind) bytes (length-take-le (32 * n) behind (omega arith)) b fits
      ∙ ap (λ (l : List (List ℕ)). laid_at to l (rows_of k bytes))
      (rows_first n behind (omega arith) ∙ sym (rows_take n (k - from) behind (omega arith)) ∙ ap (take n) (rows_drop from (k - from) k bytes (omega arith)))

  -- rows cleared
  pub rows_cleared : (from n : ℕ) → from + n ≤ k
      → rows_of k (laid_at (32 * from) (replicate (32 * n) 0) bytes) ≡ laid_at from (replicate n zeros) (rows_of k bytes)
  rows_cleared from n a =
      rows_laid k from n (replicate (32 * n) 0) bytes (length-replicate (32 * n) 0) a fits
      ∙ ap (λ (l : List (List ℕ)). laid_at from l (rows_of k bytes)) (rows_zeros n)
