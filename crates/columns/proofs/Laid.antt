-- Laws of `laid_at`: what stands in a column after a list was laid over it, by length, by cell, and before, within and behind the list.
-- Assumes nothing.
use mathlib.Core.Path.{◌≡◌, sym, ap, ◌∙◌}
use mathlib.Core.List.{List, [], ◌∷◌, ◌++◌, append-nil}
use Prim.Native.Nat.{ℕ, ◌+◌, ◌-◌, ◌<◌, ◌≤◌}
use native.Mathlib.Nat.{add-zero, zero-add}
use native.Mathlib.Numerals.{add-one}
use native.Mathlib.Omega.{arith}
use lib.ListN.{length, get_or, take, drop, set, length-append, length-drop, take-append-drop, drop_of_length-le, get_or-append}
use lib.Seq.{length-take-le, take-append-le, take-append_seam, drop-append_seam, drop_at, drop-drop, take-take, get_or-drop, get_or-take, set_split}
use Rattle.columns.specs.Laid.{laid_at}

-- two lists that are the same from m on are the same from any later place on, and cell by cell
module _ {A : Type 0} (xs ys : List A) (m k : ℕ) (same : drop m xs ≡ drop m ys) (behind : m ≤ k) where
  pub drop_same : drop k xs ≡ drop k ys
  drop_same =
      let later : k ≡ m + (k - m) = omega arith in
      rw later (sym (drop-drop (k - m) m xs) ∙ ap (drop (k - m)) same ∙ drop-drop (k - m) m ys)

  pub get_d_same : (d : A) → get_or xs k d ≡ get_or ys k d
  get_d_same d =
      let later : k ≡ m + (k - m) = omega arith in
      rw later (sym (get_or-drop m xs (k - m) d) ∙ ap (λ (l : List A). get_or l (k - m) d) same ∙ get_or-drop m ys (k - m) d)

module _ {A : Type 0} (n : ℕ) (xs ys : List A) (fits : n + length xs ≤ length ys) where
  front : length (take n ys) ≡ n
  front = length-take-le n ys (omega arith)

  rest : drop n (laid_at n xs ys) ≡ xs ++ drop (n + length xs) ys
  unfolding laid_at
  rest = drop_at (take n ys) _ n front

  behind : drop (n + length xs) (laid_at n xs ys) ≡ drop (n + length xs) ys
  behind = sym (drop-drop (length xs) n (laid_at n xs ys)) ∙ ap (drop (length xs)) rest ∙ drop-append_seam xs _

  pub length_laid : length (laid_at n xs ys) ≡ length ys
  unfolding laid_at
  length_laid = simp (length-append, length-drop) (omega (arith, front))

  -- what stands before the list, the list itself, and what stands behind it
  pub take_laid : (k : ℕ) → k ≤ n → take k (laid_at n xs ys) ≡ take k ys
  unfolding laid_at
  take_laid k l = take-append-le k (take n ys) _ (omega (arith, front)) ∙ take-take k n ys l

  pub middle_laid : take (length xs) (drop n (laid_at n xs ys)) ≡ xs
  middle_laid = ap (take (length xs)) rest ∙ take-append_seam xs _

  pub drop_laid : (k : ℕ) → n + length xs ≤ k → drop k (laid_at n xs ys) ≡ drop k ys
  drop_laid k l = drop_same _ _ (n + length xs) k behind l

  -- cell by cell
  pub get_d_laid_before : (k : ℕ) (d : A) → k < n → get_or (laid_at n xs ys) k d ≡ get_or ys k d
  unfolding laid_at
  get_d_laid_before k d l = get_or-append (take n ys) _ d k (omega (arith, front)) ∙ get_or-take n ys k d l

  pub get_d_laid_in : (k : ℕ) (d : A) → k < length xs → get_or (laid_at n xs ys) (n + k) d ≡ get_or xs k d
  get_d_laid_in k d l =
      sym (get_or-drop n (laid_at n xs ys) k d) ∙ ap (λ (l : List A). get_or l k d) rest ∙ get_or-append xs _ d k l

  pub get_d_laid_behind : (k : ℕ) (d : A) → n + length xs ≤ k → get_or (laid_at n xs ys) k d ≡ get_or ys k d
  get_d_laid_behind k d l = get_d_same _ _ (n + length xs) k behind l d

-- nothing laid, one cell, a list laid over one of its length
pub laid_none : {A : Type 0} (n : ℕ) (ys : List A) → laid_at n [] ys ≡ ys
unfolding laid_at
laid_none n ys = rw (add-zero, take-append-drop)

pub laid_one : {A : Type 0} (n : ℕ) (x : A) (ys : List A) → n < length ys → laid_at n (x ∷ []) ys ≡ set ys n x
unfolding laid_at
laid_one n x ys l = rw add-one (sym (set_split ys n x l))

pub laid_whole : {A : Type 0} (xs ys : List A) → length xs ≡ length ys → laid_at 0 xs ys ≡ xs
unfolding laid_at
laid_whole xs ys e = rw (zero-add, drop_of_length-le ys {i = length xs} (omega arith), append-nil)
