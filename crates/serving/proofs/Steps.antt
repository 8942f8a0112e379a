-- The line in its array, and the turns of the loop that serves it, each a lemma over the shut rules on columns: what is left to do makes of what
-- stands now what the whole makes of the entry. Assumes nothing.
use mathlib.Core.Path.{◌≡◌, refl, sym, ◌∙◌}
use mathlib.Core.List.{List, [], ◌∷◌, ◌++◌}
use mathlib.Core.Bool.{Bool, true, false, cond}
use Prim.Native.Nat.{ℕ, zero, suc, ◌+◌, ◌-◌, ◌<◌, ◌≤◌}
use native.Mathlib.Nat.{sub-eq-zero_of_le}
use native.Mathlib.Numerals.{add-one}
use native.Mathlib.Omega.{arith}
use lib.Dec.{eqb, ltb}
use lib.ListN.{length, get_or, set, take, length-set, length-take, drop_of_length-le}
use lib.Seq.{drop-cons, get_or-take, take-suc-set, drop-append-le, length-take-le, get_or-set_same, get_or-set_other}
use borrow.Author.Tests.{ltb-true, ltb-false, eqb-true, eqb-false}
use Rattle.moves.specs.declared.Fixed.{Fixed}
use Rattle.columns.proofs.Scans.{turns}
use Rattle.numbers.proofs.Bytes.{by_bool}
use Rattle.meaning.specs.Meaning.{Columns}
use Rattle.meaning.specs.Walks.{Ready, moves_c, moves_at, held_c, full_c, WalkC, walk, meet_c}
use Rattle.meaning.specs.Passes.{line_in, waits, serve_c}
use Rattle.meaning.proofs.Kept.{meet_keeps}

-- ---- the line
pub line_front : (ls : List ℕ) (h t : ℕ) → h < t → t ≤ length ls → line_in ls h t ≡ get_or ls h 0 ∷ line_in ls (h + 1) t
line_front ls h t a b =
    let c : h < length (take t ls) = simp length-take (omega arith) in
    rw (add-one, drop-cons (take t ls) h 0 c, get_or-take t ls h 0 a)

pub line_push : (ls : List ℕ) (h t j : ℕ) → h ≤ t → t < length ls → line_in (set ls t j) h (t + 1) ≡ line_in ls h t ++ (j ∷ [])
line_push ls h t j a b =
    let c : h ≤ length (take t ls) = rw (length-take-le t ls (omega arith)) a in
    rw (add-one t, take-suc-set ls t j b, drop-append-le h (take t ls) (j ∷ []) c)

pub line_none : (ls : List ℕ) (h t : ℕ) → t ≤ h → line_in ls h t ≡ []
line_none ls h t a = drop_of_length-le (take t ls) {i = h} (simp length-take (omega arith))

pub record Line (class cost : List ℕ) (f : Fixed) (goal : WalkC) (ls : List ℕ) (h t i : ℕ) (m : Columns) : Type 0 where
  pub ready : Ready f class cost m
  pub same : serve_c class cost f (line_in ls h t) (f.places - i) i m ≡ goal
  pub long : length ls ≡ 320
  pub fits : t ≤ 64 + i
  pub front : h ≤ t
  pub slots : (k : ℕ) → k < t → get_or ls k 0 < 64

module _ {class cost : List ℕ} {f : Fixed} {goal : WalkC} {ls : List ℕ} {h t i : ℕ} {m : Columns} (v : Line class cost f goal ls h t i m) where
  serve_none : (r : ℕ) (x : Columns) (k : ℕ) → serve_c class cost f [] r k x ≡ walk k x
  unfolding serve_c
  serve_none zero x k = refl
  serve_none (suc r) x k = refl

  -- the test of the loop, as the routine `waiting` answers it
  pub serve_end : {y : Bool} → y ≡ waits i f.places h t → y ≡ false → walk i m ≡ goal
  unfolding serve_c
  serve_end ye yf =
      let e : waits i f.places h t ≡ false = sym ye ∙ yf in
      by_bool (ltb i f.places)
      (λ a. let b : t ≤ h = ltb-false h t (rw a at e) in sym (serve_none (f.places - i) m i) ∙ (rw (line_none ls h t b) at v.same))
      (λ a. let b : f.places ≤ i = ltb-false i f.places a in rw (sub-eq-zero_of_le b) at v.same)

  module _ {y : Bool} (ye : y ≡ waits i f.places h t) (yt : y ≡ true) where
    w : waits i f.places h t ≡ true
    w = sym ye ∙ yt

    both : (i < f.places) × (h < t)
    both = by_bool (ltb i f.places) (λ a. (ltb-true i f.places a, ltb-true h t (rw a at w)))
        (λ a. absurd (let y : ◌≡◌ {A = ℕ} 0 1 = (let z : ◌≡◌ {A = Bool} false true = rw a at w in cc) in omega arith))

    pub in_places : i < f.places
    in_places = both.0

    pub in_line : h < t
    in_line = both.1

    pub place_fits : i < 256
    place_fits = omega (arith, in_places, v.ready.good.store.places_fit)

    -- a push finds room
    pub line_fits : t < 320
    line_fits = omega (arith, v.fits, place_fits)

    pub head_fits : h < 320
    head_fits = omega (arith, in_line, line_fits)

    abbrev j : ℕ
    j = get_or ls h 0

    small : j < 64
    small = v.slots h in_line

    pub here : {p : ℕ} → p ≡ j → p < 64
    here pe = rw pe small

    module _ {p : ℕ} (pe : p ≡ j) {x : Columns} (e : x ≡ meet_c class cost f p i m) where
      next_ready : Ready f class cost x
      next_ready = rw (e, pe) (meet_keeps v.ready j i (omega (arith, in_places, v.ready.good.store.places_fit)) small)

      next : serve_c class cost f (cond (moves_c i m) (cond (full_c f.height (held_c p x)) (line_in ls (h + 1) t) (line_in ls (h + 1) t ++ (p ∷ [])))
          (line_in ls h t)) (f.places - (i + 1)) (i + 1) x ≡ goal
      unfolding serve_c
      next =
          let l = line_front ls h t in_line (omega (arith, v.long, v.fits, in_places, v.ready.good.store.places_fit)) in
          rw (e, pe, l) (rw (l, turns f.places i in_places) at v.same)

      module _ {c : Bool} (ce : c ≡ moves_at m.store.home m.mark i) where
        -- the account was passed over: the slot waits on
        pub serve_stays : c ≡ false → Line class cost f goal ls h t (i + 1) x
        serve_stays z = record {
          ready = next_ready;
          same = rw (sym ce ∙ z) at next;
          long = v.long;
          fits = omega
              (arith, v.fits);
          front = v.front;
          slots = v.slots;
        }

        pub serve_full : c ≡ true → {y : Bool} → y ≡ full_c f.height (held_c p x) → y ≡ true → Line class cost f goal ls (h + 1) t (i + 1) x
        serve_full z a d = record {
          ready = next_ready;
          same = rw (sym ce ∙ z, sym a ∙ d) at next;
          long = v.long;
          fits = omega
              (arith, v.fits);
          front = omega (arith, in_line);
          slots = v.slots;
        }

        pub serve_back : c ≡ true → {y : Bool} → y ≡ full_c f.height (held_c p x) → y ≡ false
            → Line class cost f goal (set ls t p) (h + 1) (t + 1) (i + 1) x
        serve_back z a d =
            let b : t < length ls = omega (arith, v.long, v.fits, in_places, v.ready.good.store.places_fit) in
            record {
              ready = next_ready;
              same = rw (line_push ls (h + 1) t p (omega (arith, in_line)) b) (rw (sym ce ∙ z, sym a ∙ d) at next);
              long = simp length-set v.long;
              fits = omega (arith, v.fits);
              front = omega (arith, in_line);
              slots = λ k q. by_bool (eqb k t)
                  (λ u. let g = eqb-true k t u in rw (g, get_or-set_same ls t p 0 b) (here pe))
                  (λ u. let g = eqb-false k t u in rw (get_or-set_other ls t k p 0 g) (v.slots k (omega arith)));
            }
