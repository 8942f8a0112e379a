-- What the look through the slots listed keeps, and that the list made below the height is looked at whole. Assumes nothing.
use mathlib.Core.Path.{◌≡◌, refl, sym}
use mathlib.Core.Bool.{Bool, true, false}
use mathlib.Core.List.{List, [], ◌∷◌}
use Prim.Native.Nat.{ℕ, ◌+◌, ◌<◌, ◌≤◌}
use native.Mathlib.Numerals.{add-one}
use native.Mathlib.Omega.{arith}
use lib.ListN.{length, get_or, take, drop, length-take, drop_of_length-le}
use lib.Seq.{drop-cons, get_or-take}
use borrow.Author.Tests.{lt-ltb, le-ltb}
use Rattle.numbers.proofs.Bytes.{clash}
use Rattle.rules.specs.World.{is_nil, some_of}
use Rattle.columns.proofs.Laid.{middle_laid}
use Rattle.entry.specs.Entry.{Lists}
use Rattle.over_height.specs.Heights.{held_of, some_above}

-- ---- the slots listed: what is left to look at answers what all do
module _ (height : ℕ) (number ints exts : List ℕ) (slots : ℕ) (listed : List ℕ) (count : ℕ) where
  abbrev held : ℕ → ℕ
  held x = held_of number ints exts slots x

  abbrev pub Left : ℕ → Bool
  Left k = some_above height number ints exts slots (drop k (take count listed))

  module _ (fits : count ≤ length listed) (k : ℕ) (l : k < count) where
    front : drop k (take count listed) ≡ get_or listed k 0 ∷ drop (k + 1) (take count listed)
    front =
        let c : k < length (take count listed) = simp length-take (omega arith) in
        rw (add-one, drop-cons (take count listed) k 0 c, get_or-take count listed k 0 l)

    pub look_hit : height < held (get_or listed k 0) → Left k ≡ true
    unfolding some_above some_of
    look_hit h = rw (front, lt-ltb _ _ h)

    pub look_on : held (get_or listed k 0) ≤ height → Left (k + 1) ≡ Left k
    unfolding some_above some_of
    look_on h = sym (rw (front, le-ltb _ _ h))

  pub look_end : (k : ℕ) → count ≤ k → Left k ≡ false
  unfolding some_above some_of
  look_end k h = rw (drop_of_length-le (take count listed) {i = k} (simp length-take (omega arith)))

-- a list laid over the front of a column is its front
module _ {made lent listed : List ℕ} {count : ℕ} (v : Lists made lent listed count) (long : length lent ≡ 1024) where
  few : 0 + length made ≤ length lent
  few = omega (arith, v.few, v.count_is)

  pub listed_front : take count listed ≡ made
  listed_front = rw (v.cells, v.count_is) (middle_laid 0 made lent few)

-- no slot listed, none above the height
pub none_above : (height : ℕ) (number ints exts : List ℕ) (slots : ℕ) (listed : List ℕ) → is_nil listed ≡ true → false ≡ some_above height number ints exts slots listed
unfolding some_above some_of is_nil
none_above height number ints exts slots [] e = refl
none_above height number ints exts slots (x ∷ listed) e = clash false e refl
