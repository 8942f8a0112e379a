-- The turns of the loops, each a lemma over the shut rules on columns: what is left to do makes of what stands now what the whole makes of
-- the entry. Assumes nothing.
use mathlib.Core.Path.{◌≡◌, sym, ◌∙◌}
use mathlib.Core.List.{List}
use mathlib.Core.Bool.{Bool, true, false, cond}
use Prim.Native.Nat.{ℕ, ◌+◌, ◌-◌, ◌<◌, ◌≤◌}
use native.Mathlib.Nat.{sub-eq-zero_of_le}
use native.Mathlib.Omega.{arith}
use lib.Dec.{eqb}
use borrow.Author.Tests.{eq-eqb, ne_eqb}
use Rattle.moves.specs.declared.Fixed.{Fixed}
use Rattle.meaning.proofs.Kept.{meet_keeps}
use Rattle.columns.proofs.Scans.{turns}
use Rattle.meaning.specs.Meaning.{Columns}
use Rattle.meaning.specs.Walks.{Ready, moves_at, held_c, full_c, WalkC, walk, meet_c, seek_c, reach_c}

pub record Going {R : Type 0} (f : Fixed) (class cost : List ℕ) (run : ℕ → Columns → R) (goal : R) (i : ℕ) (m : Columns) : Type 0 where
  pub ready : Ready f class cost m
  pub same : run i m ≡ goal

module _ (class cost : List ℕ) (f : Fixed) (j : ℕ) where
  abbrev pub Seek : ℕ → Columns → WalkC
  Seek i m = seek_c class cost f j (f.places - i) i m

  abbrev pub Reach : ℕ → Columns → WalkC
  Reach i m = reach_c class cost f j (f.places - i) i m

  module _ (jl : j < 64) {goal : WalkC} {i : ℕ} {m : Columns} where
    module _ (v : Going f class cost Seek goal i m) where
      pub seek_end : f.places ≤ i → walk i m ≡ goal
      unfolding seek_c
      seek_end h = rw (sub-eq-zero_of_le h) at v.same

      module _ (h : i < f.places) {t : Columns} (e : t ≡ meet_c class cost f j i m) where
        seek_next : cond (eqb (held_c j t) 0) (Seek (i + 1) t) (walk (i + 1) t) ≡ goal
        unfolding seek_c
        seek_next = rw e (rw (turns f.places i h) at v.same)

        next_ready : Ready f class cost t
        next_ready = rw e (meet_keeps v.ready j i (omega (arith, v.ready.good.store.places_fit)) jl)

        pub seek_on : {x : ℕ} → x ≡ held_c j t → x ≡ 0 → Going f class cost Seek goal (i + 1) t
        seek_on a b = record { ready = next_ready; same = rw (eq-eqb (held_c j t) 0 (sym a ∙ b)) at seek_next }

        pub seek_stop : {x : ℕ} → x ≡ held_c j t → (x ≡ 0 → ⊥) → walk (i + 1) t ≡ goal
        seek_stop a b = rw (ne_eqb (held_c j t) 0 (λ z. b (a ∙ z))) at seek_next

    module _ (v : Going f class cost Reach goal i m) where
      pub reach_end : f.places ≤ i → walk i m ≡ goal
      unfolding reach_c
      reach_end h = rw (sub-eq-zero_of_le h) at v.same

      module _ (h : i < f.places) {t : Columns} (e : t ≡ meet_c class cost f j i m) where
        reach_next : cond (cond (moves_at m.store.home m.mark i) (full_c f.height (held_c j t)) false) (walk (i + 1) t) (Reach (i + 1) t)
            ≡ goal
        unfolding reach_c
        reach_next = rw e (rw (turns f.places i h) at v.same)

        reach_ready : Ready f class cost t
        reach_ready = rw e (meet_keeps v.ready j i (omega (arith, v.ready.good.store.places_fit)) jl)

        pub reach_on : {x y : Bool} {n : ℕ} → x ≡ moves_at m.store.home m.mark i → n ≡ held_c j t → y ≡ cond x (full_c f.height n) false
            → y ≡ false → Going f class cost Reach goal (i + 1) t
        reach_on a n b c = record { ready = reach_ready; same = rw (sym (rw (a, n) at b) ∙ c) at reach_next }

        pub reach_stop : {x y : Bool} {n : ℕ} → x ≡ moves_at m.store.home m.mark i → n ≡ held_c j t → y ≡ cond x (full_c f.height n) false
            → y ≡ true → walk (i + 1) t ≡ goal
        reach_stop a n b c = rw (sym (rw (a, n) at b) ∙ c) at reach_next
