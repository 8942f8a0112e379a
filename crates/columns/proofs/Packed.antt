-- Laws of `packed`: a kept cell stands at its rank, the cells from the last rank on are free, and what lies behind the first n stays. Then
-- the loop that packs in place, i being the next index that it reads and w the next that it writes; what it leaves, with the cells from w
-- on freed, is `packed`. One proof for every element type: numbers, and the rows of a flat column. Assumes nothing.
use mathlib.Core.Path.{◌≡◌, refl, sym, ap, ◌∙◌}
use mathlib.Core.Bool.{Bool, true, false}
use mathlib.Core.List.{List, ◌++◌, append-nil, append_assoc}
use Prim.Native.Nat.{ℕ, ◌+◌, ◌-◌, ◌<◌, ◌≤◌}
use native.Mathlib.Nat.{sub-zero, sub-eq-zero_of_le, zero-add, le_antisymm}
use native.Mathlib.Numerals.{add-one}
use native.Mathlib.Omega.{arith}
use lib.ListN.{length, get_or, take, drop, set, replicate, length-set, length-append, length-replicate, length-drop, get_or-replicate, drop_of_length-le, get_or-append}
use lib.Seq.{take-suc-set, drop-set-lt, drop_at, take_at, get_or-drop}
use Rattle.columns.specs.Lists.{gather, rank}
use Rattle.columns.specs.Laid.{laid_at, packed}
use Rattle.columns.proofs.Laid.{drop_same, get_d_same}
use Rattle.columns.proofs.Gathers.{rank_kept, rank_left, rank_le, rank_less, length_gather, gather_at, gather_cong}
use Rattle.columns.proofs.Scans.{turns}

module _ {A : Type 0} (d : A) (t : ℕ → Bool) (n : ℕ) (xs : List A) where
  abbrev kept : List A
  kept = gather t (λ j. get_or xs j d) n 0

  abbrev freed : List A
  freed = replicate (n - rank t n) d

  pub length_kept : length kept ≡ rank t n
  unfolding rank
  length_kept = sym (length_gather t (λ j. get_or xs j d) n 0 n (sym (zero-add n)) ∙ zero-add (length kept))

  -- the kept and the freed cells together are the first n
  first : length (kept ++ freed) ≡ n
  first = simp (length-append, length-replicate) (omega (arith, length_kept, rank_le t n))

  pub length_packed : n ≤ length xs → length (packed d t n xs) ≡ length xs
  unfolding packed
  length_packed h = simp (length-append, length-replicate, length-drop) (omega (arith, length_kept, rank_le t n))

  pub take_packed : take (rank t n) (packed d t n xs) ≡ kept
  unfolding packed
  take_packed = take_at kept _ (rank t n) length_kept

  pub drop_packed : drop n (packed d t n xs) ≡ drop n xs
  unfolding packed
  drop_packed = rw (← append_assoc kept freed (drop n xs)) (drop_at (kept ++ freed) (drop n xs) n first)

  pub packed_kept : (j : ℕ) → j < n → t j ≡ true → get_or (packed d t n xs) (rank t j) d ≡ get_or xs j d
  unfolding packed rank
  packed_kept j l e =
      get_or-append kept _ d (rank t j) (omega (arith, length_kept, rank_less t j n e l))
      ∙ gather_at t (λ j. get_or xs j d) d n 0 j (rank t j) (omega arith) (omega arith) e (sym (zero-add (rank t j)))

  pub packed_freed : (k : ℕ) → rank t n ≤ k → k < n → get_or (packed d t n xs) k d ≡ d
  unfolding packed
  packed_freed k a l =
      let r = rank t n in
      let e : k ≡ r + (k - r) = omega arith in
      rw e
      (sym (get_or-drop r (kept ++ (freed ++ drop n xs)) (k - r) d)
      ∙ ap (λ (l : List A). get_or l (k - r) d) (drop_at kept _ r length_kept)
      ∙ get_or-append freed (drop n xs) d (k - r) (omega (arith, length-replicate (n - r) d))
      ∙ get_or-replicate (n - r) (k - r) d d (omega arith))

  pub packed_behind : (k : ℕ) → n ≤ k → get_or (packed d t n xs) k d ≡ get_or xs k d
  packed_behind k l = get_d_same _ _ n k drop_packed l d

-- what lies behind the first n may be cut off before
pub packed_append : {A : Type 0} (d : A) (t : ℕ → Bool) (n : ℕ) (xs ys : List A) → length xs ≡ n → packed d t n (xs ++ ys) ≡ packed d t n xs ++ ys
unfolding packed
packed_append d t n xs ys e =
    let same = gather_cong t (λ j. get_or xs j d) t (λ j. get_or (xs ++ ys) j d) n 0 (λ j a l. (refl, get_or-append xs ys d j (omega arith))) in
    rw (same, drop_at xs ys n e, drop_of_length-le xs {i = n} (omega arith)) (simp (append-nil, append_assoc))

-- ---- the loop

module _ {A : Type 0} where
  pub record Packing (d : A) (t : ℕ → Bool) (n : ℕ) (xs₀ xs : List A) (i w : ℕ) : Type 0 where
    pub within : i ≤ n
    pub low : w ≤ i
    pub long : length xs ≡ length xs₀
    pub is_rank : w ≡ rank t i
    pub front : take w xs ++ gather t (λ j. get_or xs₀ j d) (n - i) i ≡ gather t (λ j. get_or xs₀ j d) n 0
    pub back : drop w xs ≡ drop w xs₀

  pub pack_start : (d : A) (t : ℕ → Bool) (n : ℕ) (xs : List A) → Packing d t n xs xs 0 0
  unfolding rank
  pack_start d t n xs = record {
    within = omega arith;
    low = omega arith;
    long = refl;
    is_rank = refl;
    front = rw sub-zero;
    back = refl;
  }

  module _ {d : A} {t : ℕ → Bool} {n : ℕ} {xs₀ xs : List A} {i w : ℕ} (v : Packing d t n xs₀ xs i w) where
    -- what is read has not been written over
    pub unwritten : get_or xs i d ≡ get_or xs₀ i d
    unwritten = get_d_same xs xs₀ w i v.back v.low d

    pub pack_skip : i < n → t i ≡ false → Packing d t n xs₀ xs (i + 1) w
    unfolding gather
    pack_skip l e = record {
      within = omega arith;
      low = omega (arith, v.low);
      long = v.long;
      is_rank = v.is_rank ∙ sym (rank_left t i e);
      front = rw (turns n i l, e) at v.front;
      back = v.back;
    }

    pub pack_keep : i < n → n ≤ length xs₀ → t i ≡ true → Packing d t n xs₀ (set xs w (get_or xs i d)) (i + 1) (w + 1)
    unfolding gather
    pack_keep l h e =
        let q : w < length xs = omega (arith, v.low, v.long) in
        record {
          within = omega arith;
          low = omega (arith, v.low);
          long = length-set xs w (get_or xs i d) ∙ v.long;
          is_rank = rw v.is_rank (sym (rank_kept t i e));
          front = rw (unwritten, add-one w, take-suc-set xs w (get_or xs₀ i d) q, append_assoc) (rw (turns n i l, e) at v.front);
          back = drop-set-lt (w + 1) xs w (get_or xs i d) (omega arith) ∙ drop_same xs xs₀ w (w + 1) v.back (omega arith);
        }

    pub pack_count : n ≤ i → w ≡ rank t n
    pack_count h = v.is_rank ∙ ap (rank t) (le_antisymm v.within h)

    pub pack_end : n ≤ i → laid_at w (replicate (n - w) d) xs ≡ packed d t n xs₀
    unfolding laid_at packed gather
    pack_end h =
        let low : w ≤ n = omega (arith, v.low, v.within) in
        let size : w + length (replicate (n - w) d) ≡ n = omega (arith, length-replicate (n - w) d) in
        let done : take w xs ≡ gather t (λ j. get_or xs₀ j d) n 0 = rw (sub-eq-zero_of_le h, append-nil) at v.front in
        rw (← pack_count h, size, done, drop_same xs xs₀ w n v.back low)
