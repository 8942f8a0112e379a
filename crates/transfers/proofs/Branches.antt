-- The branches of a move, each a lemma over the shut rules on columns; that a slot grows by no more than the room that it had; and how its
-- columns grow. Assumes nothing.
use mathlib.Core.Path.{◌≡◌, sym, ap, ◌∙◌}
use mathlib.Core.List.{List}
use Prim.Native.Nat.{ℕ, ◌+◌, ◌<◌, ◌≤◌, ◌-◌}
use native.Mathlib.Omega.{arith}
use lib.ListN.{get_or, set}
use borrow.Author.Tests.{ne_eqb, le-leb, lt-leb}
use Rattle.moves.specs.declared.Tally.{Tally}
use Rattle.moves.specs.declared.Fixed.{Fixed}
use Rattle.moves.specs.Moves.{alone, tally, costs, Homes, homes, enter_homes, Store, store, move_store, took_store, take_c, Taking, TookIs, wanted_of, wanted_c, queued_c, held_at, with_homes}
use Rattle.moves.proofs.Alone.{alone_at, alone_set}

pub grow_fits : (q height h k got : ℕ) → k ≡ wanted_c q height h → height ≤ 16 → h ≤ 16 → got ≤ k → h + got ≤ 16
unfolding wanted_c
grow_fits q height h k got e a b l = omega arith

-- a count that grows, as the column of one slot
pub alone_grown : (j x d y : ℕ) → j < 64 → y ≡ x + d → alone j y ≡ set (alone j x) j (get_or (alone j x) j 0 + d)
alone_grown j x d y l e = rw (alone_at j x l, alone_set j x (x + d), e)

module _ (class : List ℕ) (f : Fixed) (p j : ℕ) (s : Store) where
  pub move_none : f.places ≤ p → s ≡ move_store class f p j s
  unfolding move_store
  move_none l = simp (le-leb _ _ l)

  module _ (l : p < f.places) (h k : ℕ) (he : h ≡ held_at s.ints s.exts j)
      (ke : k ≡ wanted_c (queued_c f.rows p s.owner) f.height h) where
    k_is : wanted_of f p j s ≡ k
    k_is = sym (rw he at ke)

    pub move_stop : k ≡ 0 → {t : Tally} → t ≡ costs s.tally 1
        → store s.owner s.taken s.home s.member s.ints s.exts t ≡ move_store class f p j s
    unfolding move_store
    move_stop z e = simp (lt-leb _ _ l, k_is ∙ z, e)

    move_takes : (k ≡ 0 → ⊥) → move_store class f p j s ≡ took_store p j s (take_c p class k f.rows 0 s.owner)
    unfolding move_store
    move_takes z = simp (lt-leb _ _ l, k_is, ne_eqb _ _ z)

    pub move_took : (k ≡ 0 → ⊥) → {os out : List ℕ} {got ints pops : ℕ} → TookIs (take_c p class k f.rows 0 s.owner) s.tally.taken k
        s.taken os out got ints pops
        → {u v : Tally} → u ≡ costs s.tally 1 → v ≡ costs u (1 + pops)
        → (is es : List ℕ) → is ≡ set s.ints j (get_or s.ints j 0 + ints) → es ≡ set s.exts j (get_or s.exts j 0 + (got - ints))
        → (hs ps : List ℕ) (r : Tally) → homes hs ps r ≡ enter_homes p j got (homes s.home s.member
        (tally v.joined v.accounts (s.tally.taken + got) v.ops))
        → store os out hs ps is es r ≡ move_store class f p j s
    unfolding took_store
    move_took z {os} {out} {got} {ints} {pops} t ue ve is es ie ee hs ps r e =
        let T : Taking = take_c p class k f.rows 0 s.owner in
        let e' = rw (ve, ue, t.pops_are, t.got_is) at e in
        rw (move_takes z, t.owners_are, t.out_is, ie, ee, t.ints_are, t.got_is) (ap (λ (x : Homes). with_homes s j T x) e')
