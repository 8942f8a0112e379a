-- The search for a slot is the first place of a list at which its number stands, or the list's length. Assumes nothing.
use mathlib.Core.Path.{◌≡◌, sym, ◌∙◌}
use mathlib.Core.List.{List, ◌∷◌}
use mathlib.Core.Bool.{not}
use Prim.Native.Nat.{ℕ, zero, suc, ◌+◌, ◌≤◌}
use native.Mathlib.Nat.{add-zero, zero-add, add_assoc}
use native.Mathlib.Omega.{arith}
use native.Mathlib.Numerals.{add-one}
use lib.Dec.{eqb, ltb}
use lib.ListN.{length, get_or, take, drop}
use lib.Seq.{drop-cons, length-take-le}
use borrow.Author.Tests.{ltb-false}
use Rattle.std.proofs.Common.{Option}
use Rattle.std.proofs.lemmas.List.Sums.{prefix_len-le-length}
use Rattle.std.specs.Option.{unwrap_or}
use Rattle.std.specs.List.{position, position_or_len}
use Rattle.numbers.proofs.Bytes.{by_bool}
use Rattle.meaning.specs.Passes.{position_from}

module _ (numbers : List ℕ) (x : ℕ) where
  from_here : (r j : ℕ) → j + r ≤ length numbers → position_from numbers x r j ≡ j + position_or_len (λ n. eqb n x) (take r (drop j numbers))
  unfolding position_from
  from_here zero j h = omega arith
  from_here (suc r) j h =
      let e : drop j numbers ≡ get_or numbers j 0 ∷ drop (j + 1) numbers = rw add-one (drop-cons numbers j 0 (omega arith)) in
      by_bool (eqb (get_or numbers j 0) x)
      (λ t. rw (e, t) (sym (add-zero j)))
      (λ t. rw (e, t) (from_here r (j + 1) (omega arith) ∙ add_assoc j 1 _))

  first_place : (slots : ℕ) → slots ≤ length numbers → position_from numbers x slots 0 ≡ position_or_len (λ n. eqb n x) (take slots numbers)
  first_place slots h = from_here slots 0 (omega arith) ∙ zero-add _

  pub found : (slots : ℕ) → slots ≤ length numbers → {r : Option ℕ} → r ≡ position (λ n. eqb n x) (take slots numbers)
      → unwrap_or r slots ≡ position_from numbers x slots 0
  found slots h e =
      let long : length (take slots numbers) ≡ slots = length-take-le slots numbers h in
      by_bool (ltb (position_or_len (λ n. eqb n x) (take slots numbers)) (length (take slots numbers)))
      (λ t. rw (e, t, first_place slots h))
      (λ t. let k = ltb-false _ _ t in
      let least : position_or_len (λ n. eqb n x) (take slots numbers) ≤ length (take slots numbers) = prefix_len-le-length (λ n. not (eqb n x)) (take slots numbers) in
      rw (e, t, first_place slots h) (omega arith))
