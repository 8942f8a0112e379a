-- The branches of a check and an entering, each a lemma over the shut rules on columns; and the room that each push finds. Assumes nothing.
use mathlib.Core.Path.{◌≡◌, sym}
use mathlib.Core.List.{List}
use Prim.Native.Nat.{ℕ, ◌+◌, ◌<◌, ◌≤◌}
use native.Mathlib.Omega.{arith}
use lib.ListN.{length, get_or, set}
use lib.Dec.{eqb}
use borrow.Author.Tests.{eq-eqb, ne_eqb}
use Rattle.moves.specs.Good.{many, GoodMarks}
use Rattle.moves.specs.declared.Tally.{Tally}
use Rattle.moves.specs.Moves.{Marks, marks, tally, costs, check_marks, Homes, homes, enter_homes, nowhere}
use Rattle.moves.proofs.Counts.{some_pass}

module _ (cost : List ℕ) (p : ℕ) (m : Marks) where
  pub check_in : get_or m.mark p 0 ≡ 2 → {t : Tally} → t ≡ costs m.tally 1 → marks m.mark m.joined t ≡ check_marks cost p m
  unfolding check_marks
  check_in e f = simp (e, f)

  pub check_joins : get_or m.mark p 0 ≡ 1 → {t : Tally} → t ≡ costs m.tally (get_or cost p 0)
      → marks (set m.mark p 2) (set m.joined m.tally.joined p) (tally (m.tally.joined + 1) t.accounts t.taken t.ops) ≡ check_marks cost p m
  unfolding check_marks
  check_joins e f = rw f (simp e)

  pub check_out : (get_or m.mark p 0 ≡ 2 → ⊥) → (get_or m.mark p 0 ≡ 1 → ⊥) → {t : Tally} → t ≡ costs m.tally (get_or cost p 0)
      → marks m.mark m.joined t ≡ check_marks cost p m
  unfolding check_marks
  check_out e g f = simp (ne_eqb _ _ e, ne_eqb _ _ g, f)

module _ (p j got : ℕ) (h : Homes) where
  pub place_has : (get_or h.home p 0 ≡ nowhere → ⊥) → h ≡ enter_homes p j got h
  unfolding enter_homes
  place_has e = simp (ne_eqb _ _ e)

  pub place_none : get_or h.home p 0 ≡ nowhere → got ≡ 0 → {t : Tally} → t ≡ costs h.tally 1 → homes h.home h.member t ≡ enter_homes p j got h
  unfolding enter_homes
  place_none e z f = simp (e, z, f)

  pub place_enters : get_or h.home p 0 ≡ nowhere → (got ≡ 0 → ⊥)
      → homes (set h.home p j) (set h.member h.tally.accounts p) (tally h.tally.joined (h.tally.accounts + 1) h.tally.taken
      h.tally.ops) ≡ enter_homes p j got h
  unfolding enter_homes
  place_enters e z = simp (e, ne_eqb _ _ z)

pub join_room : (p : ℕ) (m : Marks) → GoodMarks m → p < 1280 → get_or m.mark p 0 ≡ 1 → m.tally.joined < 1280
join_room p m g l e = omega (arith, g.joins, some_pass (eqb 1) m.mark p (omega (arith, g.mark_long)) (eq-eqb _ _ (sym e)))

pub place_room : (p : ℕ) (h : Homes) → length h.home ≡ 1280 → h.tally.accounts + many (eqb nowhere) h.home ≤ 1280 → p < 1280
    → get_or h.home p 0 ≡ nowhere → h.tally.accounts < 1280
place_room p h l g q e = omega (arith, some_pass (eqb nowhere) h.home p (omega (arith, l)) (eq-eqb _ _ (sym e)))
