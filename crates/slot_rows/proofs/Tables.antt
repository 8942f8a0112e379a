-- A table of slot records by its columns: a record that is written is written in each column, what stands at a place, the lengths; and the loops
-- that make a table of two columns and two columns of a table. Assumes nothing.
use mathlib.Core.Path.{◌≡◌, refl, sym, ap, ◌∙◌}
use mathlib.Core.List.{List, [], ◌∷◌, map}
use Prim.Native.Nat.{ℕ, zero, suc, ◌+◌, ◌<◌, ◌≤◌}
use native.Mathlib.Numerals.{add-one}
use native.Mathlib.Omega.{arith}
use lib.ListN.{length, get_or, take, set, length-set, length-map, get_or-map}
use lib.Seq.{take_all, take-suc, take-suc-set}
use Rattle.moves.specs.declared.Slot.{Slot}
use Rattle.slot_rows.specs.Rows.{no_slot, ints_of, exts_of}

map_set : {A B : Type 0} (f : A → B) (l : List A) (i : ℕ) (a : A) → map f (set l i a) ≡ set (map f l) i (f a)
map_set f [] i a = refl
map_set f (x ∷ xs) zero a = refl
map_set f (x ∷ xs) (suc i) a = ap (◌∷◌ (f x)) (map_set f xs i a)

-- ---- the columns of a table
pub ints_of_long : (t : List Slot) → length (ints_of t) ≡ length t
unfolding ints_of
ints_of_long t = length-map t (λ (s : Slot). s.ints)

pub exts_of_long : (t : List Slot) → length (exts_of t) ≡ length t
unfolding exts_of
exts_of_long t = length-map t (λ (s : Slot). s.exts)

pub ints_of_at : (t : List Slot) (j : ℕ) → get_or (ints_of t) j 0 ≡ (get_or t j no_slot).ints
unfolding ints_of
ints_of_at t j = get_or-map (λ (s : Slot). s.ints) t j no_slot

pub exts_of_at : (t : List Slot) (j : ℕ) → get_or (exts_of t) j 0 ≡ (get_or t j no_slot).exts
unfolding exts_of
exts_of_at t j = get_or-map (λ (s : Slot). s.exts) t j no_slot

pub ints_of_set : (t : List Slot) (j : ℕ) (s : Slot) → ints_of (set t j s) ≡ set (ints_of t) j s.ints
unfolding ints_of
ints_of_set t j s = map_set (λ (x : Slot). x.ints) t j s

pub exts_of_set : (t : List Slot) (j : ℕ) (s : Slot) → exts_of (set t j s) ≡ set (exts_of t) j s.exts
unfolding exts_of
exts_of_set t j s = map_set (λ (x : Slot). x.exts) t j s

-- ---- the loops that copy a column: the first i cells are copied
pub record Copied (from to : List ℕ) (i : ℕ) : Type 0 where
  pub long : length to ≡ 64
  pub same : take i to ≡ take i from

pub copied_start : (from : List ℕ) {to : List ℕ} → length to ≡ 64 → Copied from to 0
copied_start from long = record { long = long; same = refl }

module _ {from to : List ℕ} {i : ℕ} (long : length from ≡ 64) (v : Copied from to i) where
  pub copied_step : i < 64 → Copied from (set to i (get_or from i 0)) (i + 1)
  copied_step l = record {
    long = length-set to i (get_or from i 0) ∙ v.long;
    same = rw (add-one i, take-suc-set to i (get_or from i 0) (omega (arith, v.long)), take-suc from i 0 (omega (arith, long)), v.same);
  }

  pub copied_end : 64 ≤ i → to ≡ from
  copied_end l = sym (take_all i to (omega (arith, v.long))) ∙ v.same ∙ take_all i from (omega (arith, long))
