-- Packing a flat column is packing its rows: `packed_rows` through `flat` and through `rows_of`. Then the loop of `pack_rows`, which keeps of
-- the rows what proofs/Packed.antt keeps of any column, and the bytes behind them as they are. Assumes nothing.
use mathlib.Core.Path.{◌≡◌, refl, sym, ap, ap₂, ◌∙◌}
use mathlib.Core.Bool.{Bool, true, false}
use mathlib.Core.List.{List, [], ◌∷◌, ◌++◌}
use Prim.Native.Nat.{ℕ, zero, suc, ◌+◌, ◌-◌, ◌*◌, ◌<◌, ◌≤◌}
use native.Mathlib.Omega.{arith}
use lib.ListN.{length, get_or, drop, replicate, length-drop, length-replicate, take-append-drop}
use Rattle.numbers.specs.Bytes.{zeros}
use Rattle.numbers.proofs.Bytes.{by_bool}
use Rattle.columns.specs.Lists.{gather, rank}
use Rattle.columns.specs.Laid.{laid_at, packed}
use Rattle.columns.specs.Rows.{row_at, rows_of, flat, packed_rows}
use Rattle.columns.proofs.Laid.{length_laid, drop_laid}
use Rattle.columns.proofs.Packed.{Packing, pack_start, pack_skip, pack_keep, pack_end, length_packed, packed_append}
use Rattle.columns.proofs.Rows.{Wide, length_rows, length_row, length_zeros, get_d_rows, rows_split, rows_drop, rows_flat, rows_set, rows_cleared, flat_take, flat_rows, flat_append, length_flat}

-- ---- every row that is packed has 32 bytes
wide_append : (rs ss : List (List ℕ)) → Wide rs → Wide ss → Wide (rs ++ ss)
wide_append [] ss v w = w
wide_append (r ∷ rs) ss v w = (v.0, wide_append rs ss v.1 w)

wide_zeros : (n : ℕ) → Wide (replicate n zeros)
wide_zeros zero = tt
wide_zeros (suc n) = (length_zeros, wide_zeros n)

wide_gather : (t : ℕ → Bool) (f : ℕ → List ℕ) (m i : ℕ) → ((j : ℕ) → j < i + m → length (f j) ≡ 32) → Wide (gather t f m i)
unfolding gather
wide_gather t f zero i h = tt
wide_gather t f (suc m) i h =
    let r = wide_gather t f m (i + 1) (λ j l. h j (omega arith)) in
    by_bool (t i) (λ e. rw e (h i (omega arith), r)) (λ e. rw e r)

pub wide_rows : (k : ℕ) (bytes : List ℕ) → 32 * k ≤ length bytes → Wide (rows_of k bytes)
unfolding rows_of row_at
wide_rows zero bytes h = tt
wide_rows (suc k) bytes h = (length_row bytes 0 (omega arith), wide_rows k (drop 32 bytes) (simp length-drop (omega arith)))

module _ (t : ℕ → Bool) (n k : ℕ) (bytes : List ℕ) (few : n ≤ k) (whole : length bytes ≡ 32 * k) where
  wide_packed : Wide (packed zeros t n (rows_of k bytes))
  unfolding packed
  wide_packed =
      let row : ℕ → List ℕ = λ j. get_or (rows_of k bytes) j zeros in
      let freed : List (List ℕ) = replicate (n - rank t n) zeros in
      let behind = drop n (rows_of k bytes) in
      let stays : Wide behind =
      rw (← rows_drop n (k - n) k bytes (omega arith)) (wide_rows (k - n) (drop (32 * n) bytes) (simp length-drop (omega arith))) in
      let moved = wide_gather t row n 0 (λ j l. rw (get_d_rows k j bytes zeros (omega arith)) (length_row bytes j (omega arith))) in
      wide_append (gather t row n 0) (freed ++ behind) moved (wide_append freed behind (wide_zeros (n - rank t n)) stays)

  pub packed_rows_flat : packed_rows t n bytes ≡ flat (packed zeros t n (rows_of k bytes))
  unfolding packed_rows
  packed_rows_flat =
      let behind = drop (32 * n) bytes in
      let rows = packed zeros t n (rows_of n bytes) in
      sym (ap (λ (l : List (List ℕ)). flat (packed zeros t n l)) (rows_split n (k - n) k bytes (omega arith))
      ∙ ap flat (packed_append zeros t n (rows_of n bytes) (rows_of (k - n) behind) (length_rows n bytes))
      ∙ flat_append rows (rows_of (k - n) behind)
      ∙ ap (λ (l : List ℕ). flat rows ++ l) (flat_rows (k - n) behind (simp length-drop (omega arith))))

  pub rows_packed : rows_of k (packed_rows t n bytes) ≡ packed zeros t n (rows_of k bytes)
  rows_packed =
      ap (rows_of k) packed_rows_flat
      ∙ rows_flat k (packed zeros t n (rows_of k bytes))
      (length_packed zeros t n (rows_of k bytes) (omega (arith, length_rows k bytes)) ∙ length_rows k bytes) wide_packed

  pub length_packed_rows : length (packed_rows t n bytes) ≡ length bytes
  length_packed_rows =
      let rows = packed zeros t n (rows_of k bytes) in
      omega (arith, ap length packed_rows_flat, length_flat rows wide_packed, length_packed zeros t n (rows_of k bytes) (omega (arith, length_rows k bytes)), length_rows k bytes)

-- ---- the loop
pub record PackingRows (t : ℕ → Bool) (n : ℕ) (bytes₀ bytes : List ℕ) (i w : ℕ) : Type 0 where
  pub rows : Packing zeros t n (rows_of n bytes₀) (rows_of n bytes) i w
  pub size : length bytes ≡ length bytes₀
  pub tail : drop (32 * n) bytes ≡ drop (32 * n) bytes₀

pub rows_start : (t : ℕ → Bool) (n : ℕ) (bytes : List ℕ) → PackingRows t n bytes bytes 0 0
rows_start t n bytes = record { rows = pack_start zeros t n (rows_of n bytes); size = refl; tail = refl }

module _ {t : ℕ → Bool} {n : ℕ} {bytes₀ bytes : List ℕ} {i w : ℕ} (v : PackingRows t n bytes₀ bytes i w) (fits : 32 * n ≤ length bytes₀) where
  pub rows_skip : i < n → t i ≡ false → PackingRows t n bytes₀ bytes (i + 1) w
  rows_skip l e = record { rows = pack_skip v.rows l e; size = v.size; tail = v.tail }

  pub rows_keep : i < n → t i ≡ true → PackingRows t n bytes₀ (laid_at (32 * w) (row_at bytes i) bytes) (i + 1) (w + 1)
  rows_keep l e =
      let long : 32 * n ≤ length bytes = omega (arith, v.size) in
      let wide : length (row_at bytes i) ≡ 32 = length_row bytes i (omega arith) in
      let ends : 32 * w + length (row_at bytes i) ≤ 32 * n = omega (arith, v.rows.low) in
      record {
        rows = rw (rows_set n bytes long w (row_at bytes i) (omega (arith, v.rows.low)) wide, ← get_d_rows n i bytes zeros l)
            (pack_keep v.rows l (omega (arith, length_rows n bytes₀)) e);
        size = length_laid (32 * w) (row_at bytes i) bytes (omega arith) ∙ v.size;
        tail = drop_laid (32 * w) (row_at bytes i) bytes (omega arith) (32 * n) ends ∙ v.tail;
      }

  pub rows_end : n ≤ i → laid_at (32 * w) (replicate (32 * (n - w)) 0) bytes ≡ packed_rows t n bytes₀
  unfolding packed_rows
  rows_end h =
      let z = length-replicate {A = ℕ} (32 * (n - w)) 0 in
      let low : w ≤ n = omega (arith, v.rows.low, v.rows.within) in
      let long : 32 * n ≤ length bytes = omega (arith, v.size) in
      let made = laid_at (32 * w) (replicate (32 * (n - w)) 0) bytes in
      let size : length made ≡ length bytes = length_laid (32 * w) (replicate (32 * (n - w)) 0) bytes (omega arith) in
      sym (take-append-drop (32 * n) made)
      ∙ ap₂ ◌++◌
      (sym (flat_take n made (omega arith)) ∙ ap flat (rows_cleared n bytes long w (n - w) (omega arith) ∙ pack_end v.rows h))
      (drop_laid (32 * w) (replicate (32 * (n - w)) 0) bytes (omega arith) (32 * n) (omega arith) ∙ v.tail)
