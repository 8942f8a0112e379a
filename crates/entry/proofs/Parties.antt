-- The party of an account of the group, by the row that was found. Assumes nothing.
use mathlib.Core.Path.{◌≡◌, sym, ap, ◌∙◌}
use mathlib.Core.List.{List}
use Prim.Native.Nat.{ℕ, ◌+◌, ◌<◌, ◌≤◌}
use borrow.Author.Tests.{lt-ltb, le-ltb}
use Rattle.columns.specs.Rows.{row_at}
use Rattle.entry.specs.Entry.{seat_in, party_of}

module _ (order : List ℕ) (places : ℕ) (group : List ℕ) (g : ℕ) (x : List ℕ) (seat : ℕ) (row : x ≡ row_at group g) (found : seat ≡ seat_in order places x) where
  here : seat_in order places (row_at group g) ≡ seat
  here = sym (found ∙ ap (λ (y : List ℕ). seat_in order places y) row)

  pub party_seated : seat < places → seat ≡ party_of order places group g
  party_seated l = rw (here, lt-ltb seat places l)

  pub party_own : places ≤ seat → 256 + g ≡ party_of order places group g
  party_own l = rw (here, le-ltb seat places l)
