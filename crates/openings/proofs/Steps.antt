-- The turns of the loop of the first pass, each a lemma over the shut rules on columns: what is left to do makes of what stands now what the whole
-- makes of the entry. Assumes nothing.
use mathlib.Core.Path.{◌≡◌, sym, ap, ◌∙◌}
use mathlib.Core.List.{List, [], ◌∷◌, ◌++◌}
use mathlib.Core.Bool.{Bool, true, false, cond}
use Prim.Native.Nat.{ℕ, suc, ◌+◌, ◌-◌, ◌<◌, ◌≤◌}
use native.Mathlib.Omega.{arith}
use lib.Dec.{eqb}
use lib.ListN.{length, get_or, set, length-set}
use lib.Seq.{get_or-set_same, get_or-set_other}
use borrow.Author.Tests.{eq-eqb, ne_eqb, eqb-true, eqb-false}
use Rattle.moves.specs.declared.Fixed.{Fixed}
use Rattle.numbers.proofs.Bytes.{by_bool}
use Rattle.meaning.specs.Meaning.{Columns}
use Rattle.meaning.specs.Walks.{Ready, held_c, full_c, WalkC, walk, seek_c}
use Rattle.meaning.specs.Passes.{line_in, PassedC, passed_c, serve_c, first_c}
use Rattle.meaning.proofs.Kept.{seek_keeps}
use Rattle.serving.proofs.Steps.{line_push}

pub record First (class cost : List ℕ) (f : Fixed) (goal : PassedC) (ls : List ℕ) (tail k : ℕ) (numbers : List ℕ) (sl la i : ℕ)
    (m : Columns) : Type 0 where
  pub ready : Ready f class cost m
  pub same : first_c class cost f k (line_in ls 0 tail) numbers sl la i m ≡ goal
  pub long : length ls ≡ 320
  pub wide : length numbers ≡ 64
  pub fits : tail ≤ sl
  pub room : sl + k ≤ 64
  pub high : la + k ≤ 65535
  pub slots : (q : ℕ) → q < tail → get_or ls q 0 < 64

module _ {class cost : List ℕ} {f : Fixed} {goal : PassedC} {ls : List ℕ} {tail k : ℕ} {numbers : List ℕ} {sl la i : ℕ} {m : Columns}
    (v : First class cost f goal ls tail k numbers sl la i m) where
  pub first_end : k ≤ 0 → {w : WalkC} → w ≡ serve_c class cost f (line_in ls 0 tail) (f.places - i) i m → passed_c w numbers sl la ≡ goal
  unfolding first_c
  first_end h e = let z : k ≡ 0 = omega arith in ap (λ (x : WalkC). passed_c x numbers sl la) e ∙ (rw z at v.same)

  -- the next slot has its place in the table
  pub here : 0 < k → sl < 64
  here h = omega (arith, v.room)

  module _ (h : 0 < k) {i' : ℕ} {x : Columns} (e : walk i' x ≡ seek_c class cost f sl (f.places - i) i m) where
    sought : Ready f class cost x
    sought = rw (ap (λ (z : WalkC). z.now) e) (seek_keeps class cost f sl (here h) (f.places - i) i m v.ready
        (λ y l. omega (arith, v.ready.good.store.places_fit)))

    abbrev ns' : List ℕ
    ns' = set numbers sl (la + 1)

    first_next : cond (eqb (held_c sl x) 0) (passed_c (walk i' x) (set ns' sl 0) sl (la + 1))
        (first_c class cost f (k - 1) (cond (full_c f.height (held_c sl x)) (line_in ls 0 tail) (line_in ls 0 tail ++ (sl ∷ []))) ns' (sl + 1)
        (la + 1) i' x) ≡ goal
    unfolding first_c
    first_next =
        let z : k ≡ suc (k - 1) = omega arith in
        ap (λ (w : WalkC). cond (eqb (held_c sl w.now) 0) (passed_c w (set ns' sl 0) sl (la + 1))
        (first_c class cost f (k - 1) (cond (full_c f.height (held_c sl w.now)) (line_in ls 0 tail) (line_in ls 0 tail ++ (sl ∷ []))) ns' (sl + 1)
        (la + 1) w.at w.now)) e ∙ (rw z at v.same)

    module _ {n : ℕ} (ne : n ≡ held_c sl x) where
      pub first_drops : n ≡ 0 → passed_c (walk i' x) (set ns' sl 0) sl (la + 1) ≡ goal
      first_drops z = rw (eq-eqb (held_c sl x) 0 (sym ne ∙ z)) at first_next

      module _ (n0 : n ≡ 0 → ⊥) {y : Bool} (ye : y ≡ full_c f.height (held_c sl x)) where
        first_on : first_c class cost f (k - 1) (cond (full_c f.height (held_c sl x)) (line_in ls 0 tail) (line_in ls 0 tail ++ (sl ∷ []))) ns' (sl + 1)
            (la + 1) i' x ≡ goal
        first_on = rw (ne_eqb (held_c sl x) 0 (λ z. n0 (ne ∙ z))) at first_next

        pub first_full : y ≡ true → First class cost f goal ls tail (k - 1) ns' (sl + 1) (la + 1) i' x
        first_full z = record {
          ready = sought;
          same = rw (sym ye ∙ z) at first_on;
          long = v.long;
          wide = simp length-set v.wide;
          fits = omega (arith, v.fits);
          room = omega (arith, v.room);
          high = omega (arith, v.high);
          slots = v.slots;
        }

        pub first_waits : y ≡ false → First class cost f goal (set ls tail sl) (tail + 1) (k - 1) ns' (sl + 1) (la + 1) i' x
        first_waits z =
            let b : tail < length ls = omega (arith, v.long, v.fits, v.room) in
            record {
              ready = sought;
              same = rw (line_push ls 0 tail sl (omega arith) b) (rw (sym ye ∙ z) at first_on);
              long = simp length-set v.long;
              wide = simp length-set v.wide;
              fits = omega (arith, v.fits);
              room = omega (arith, v.room);
              high = omega (arith, v.high);
              slots = λ q l. by_bool (eqb q tail)
                  (λ u. let g = eqb-true q tail u in rw (g, get_or-set_same ls tail sl 0 b) (here h))
                  (λ u. let g = eqb-false q tail u in rw (get_or-set_other ls tail q sl 0 g) (v.slots q (omega arith)));
            }
