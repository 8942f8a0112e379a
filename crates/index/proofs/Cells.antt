-- The numbers of a buffer with an index behind the first sixteen: what stays, what stands where, and one name more. Assumes nothing.
use mathlib.Core.Path.{◌≡◌, sym, ap, ap₂, ◌∙◌}
use mathlib.Core.List.{List, ◌++◌}
use Prim.Native.Nat.{ℕ, ◌+◌, ◌≤◌, ◌<◌}
use native.Mathlib.Omega.{arith}
use lib.ListN.{length, get_or, set, take, drop, length-set, length-append, take-append-drop, get_or-append}
use lib.Seq.{length-take-le, take_at, drop_at, take-set-le, drop-set-add, get_or-take, get_or-drop}
use Rattle.index.specs.Names.{linked_c, with_index}

pub length_linked : (hash place : ℕ) (cells : List ℕ) → length (linked_c hash place cells) ≡ length cells
unfolding linked_c
length_linked hash place cells =
    let v = get_or cells (256 + hash) 0 in
    length-set (set cells place v) (256 + hash) (place + 1) ∙ length-set cells place v

-- the index that stands there
pub own_index : (numbers : List ℕ) → with_index (drop 16 numbers) numbers ≡ numbers
unfolding with_index
own_index numbers = take-append-drop 16 numbers

module _ (cells numbers : List ℕ) (enough : 16 ≤ length numbers) where
  front : length (take 16 numbers) ≡ 16
  front = length-take-le 16 numbers enough

  pub length_with : length (with_index cells numbers) ≡ 16 + length cells
  unfolding with_index
  length_with = length-append (take 16 numbers) cells ∙ ap (λ (n : ℕ). n + length cells) front

  pub take_with : take 16 (with_index cells numbers) ≡ take 16 numbers
  unfolding with_index
  take_with = take_at (take 16 numbers) cells 16 front

  pub drop_with : drop 16 (with_index cells numbers) ≡ cells
  unfolding with_index
  drop_with = drop_at (take 16 numbers) cells 16 front

  pub get_d_with : (k : ℕ) → k < 16 → get_or (with_index cells numbers) k 0 ≡ get_or numbers k 0
  unfolding with_index
  get_d_with k l = get_or-append (take 16 numbers) cells 0 k (omega (arith, front)) ∙ get_or-take 16 numbers k 0 l

-- the last index holds
with_with : (a b numbers : List ℕ) → 16 ≤ length numbers → with_index a (with_index b numbers) ≡ with_index a numbers
unfolding with_index
with_with a b numbers enough = ap (λ (l : List ℕ). l ++ a) (take_with b numbers enough)

-- a cell of the index stored
set_with : (numbers : List ℕ) (k v : ℕ) → set numbers (16 + k) v ≡ with_index (set (drop 16 numbers) k v) numbers
unfolding with_index
set_with numbers k v =
    sym (take-append-drop 16 (set numbers (16 + k) v))
    ∙ ap₂ ◌++◌ (take-set-le 16 numbers (16 + k) v (omega arith)) (drop-set-add 16 numbers k v)

pub linked_with : (hash place : ℕ) (numbers : List ℕ) → 16 ≤ length numbers
    → set (set numbers (16 + place) (get_or numbers (272 + hash) 0)) (272 + hash) (place + 1) ≡ with_index (linked_c hash place (drop 16 numbers)) numbers
unfolding linked_c
linked_with hash place numbers enough =
    let z : 272 + hash ≡ 16 + (256 + hash) = omega arith in
    let v = get_or (drop 16 numbers) (256 + hash) 0 in
    let once = set (drop 16 numbers) place v in
    rw (z, ← get_or-drop 16 numbers (256 + hash) 0, set_with numbers place v)
    (set_with (with_index once numbers) (256 + hash) (place + 1)
    ∙ rw (drop_with once numbers enough) (with_with (set once (256 + hash) (place + 1)) once numbers enough))
