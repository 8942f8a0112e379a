-- A loop that lays a list over a column, one cell a turn: the copies, the clearings, and reading and writing a row are all this loop, over
-- another list. `Laying` is what it keeps: the first j cells of the list stand in the column, and the rest is as it was. Assumes nothing.
use mathlib.Core.Path.{◌≡◌, refl, sym, ap, ◌∙◌}
use mathlib.Core.List.{List, append_assoc}
use Prim.Native.Nat.{ℕ, ◌+◌, ◌-◌, ◌*◌, ◌<◌, ◌≤◌}
use native.Mathlib.Numerals.{add-one}
use native.Mathlib.Nat.{le_antisymm, zero-add}
use native.Mathlib.Omega.{arith}
use lib.Dec.{ltb}
use lib.ListN.{length, get_or, take, drop, set, replicate, length-set, length-drop, length-replicate, get_or-replicate, get_or-append}
use lib.Seq.{length-take-le, take_all, drop-drop, get_or-drop, get_or-take, paste, paste-zero, paste-suc, drop-paste}
use borrow.Author.Tests.{ltb-true, ltb-false}
use borrow.Rule.Slice.PartMut.{put_mid}
use Rattle.numbers.proofs.Bytes.{by_bool}
use Rattle.columns.specs.Laid.{laid_at}
use Rattle.columns.specs.Rows.{row_at}
use Rattle.columns.proofs.Laid.{get_d_same, laid_whole}

module _ {A : Type 0} where
  pub record Laying (src : List A) (at n : ℕ) (ys₀ ys : List A) (j : ℕ) : Type 0 where
    pub within : j ≤ n
    pub long : length ys ≡ length ys₀
    pub cells : ys ≡ paste ys₀ at src j

  pub lay_start : (src : List A) (at n : ℕ) (ys : List A) → Laying src at n ys ys 0
  lay_start src at n ys = record { within = omega arith; long = refl; cells = paste-zero ys at src }

  module _ {src : List A} {at n : ℕ} {ys₀ ys : List A} {j : ℕ} (v : Laying src at n ys₀ ys j) (enough : n ≤ length src) where
    pub lay_step : (d : A) → at + n ≤ length ys₀ → j < n → (x : A) → x ≡ get_or src j d → Laying src at n ys₀ (set ys (at + j) x) (j + 1)
    lay_step d fits l x e = record {
      within = omega arith;
      long = length-set ys (at + j) x ∙ v.long;
      cells = rw (e, v.cells, add-one j) (paste-suc ys₀ at src j d (omega arith) (omega arith));
    }

    pub lay_end : n ≤ j → ys ≡ laid_at at (take n src) ys₀
    unfolding laid_at
    lay_end h =
        let e : j ≡ n = le_antisymm v.within h in
        v.cells ∙ rw (e, length-take-le n src enough, append_assoc)

-- what a library's paste leaves, and a part that was written through
module _ {A : Type 0} (at n : ℕ) (src ys : List A) where
  pub laid_paste : n ≤ length src → paste ys at src n ≡ laid_at at (take n src) ys
  unfolding laid_at
  laid_paste enough = rw (length-take-le n src enough, append_assoc)

  pub laid_part : {k : ℕ} → k ≡ n → n ≡ length src → put_mid at k ys src ≡ laid_at at src ys
  unfolding laid_at
  laid_part e wide = rw (e, wide, drop-drop (length src) at ys) refl

-- a part of a column, as it is lent to a loop or to a method of the library
pub part_wide : {A : Type 0} (from n : ℕ) (col : List A) → from + n ≤ length col → length (take (from + n - from) (drop from col)) ≡ n
part_wide from n col fits =
    let size : from + n - from ≡ n = omega arith in
    rw size (length-take-le n (drop from col) (simp length-drop (omega arith)))

-- what a loop over a part of n cells keeps, and what it leaves there
module _ {A : Type 0} {src part items : List A} {n j : ℕ} (wide : length part ≡ n) (enough : length src ≡ n) (v : Laying src 0 n part items j) where
  pub part_step : (d : A) → j < n → (x : A) → x ≡ get_or src j d → Laying src 0 n part (set items j x) (j + 1)
  part_step d l x e = rw zero-add at (lay_step v (omega arith) d (omega arith) l x e)

  pub part_end : n ≤ j → items ≡ src
  part_end h = lay_end v (omega arith) h ∙ rw (take_all n src (omega arith)) (laid_whole src part (enough ∙ sym wide))
