-- The cells behind the slots hold nothing after a run, as before it (`run_blank`): a walk stores only where its slot stands, and a slot that is
-- dropped holds nothing and loses its number. A run opens at most n slots (`run_slots`), each with a number above the last (`run_new`), and those
-- that stood keep their numbers (`run_numbers`). Assumes nothing.
use mathlib.Core.Path.{◌≡◌, refl, ◌∙◌}
use mathlib.Core.Bool.{cond}
use mathlib.Core.List.{List, [], ◌∷◌, ◌++◌}
use Prim.Native.Nat.{ℕ, zero, suc, ◌+◌, ◌-◌, ◌<◌, ◌≤◌}
use native.Mathlib.Nat.{le_refl}
use native.Mathlib.Omega.{arith}
use lib.Dec.{eqb, leb}
use lib.ListN.{length, get_or, set, length-set}
use lib.Seq.{get_or-set_same, get_or-set_other}
use borrow.Author.Tests.{eqb-true, eqb-false}
use Rattle.numbers.proofs.Bytes.{by_bool}
use Rattle.rules.specs.World.{Each}
use Rattle.demands.proofs.Accounts.{each_map}
use Rattle.moves.specs.declared.Fixed.{Fixed}
use Rattle.moves.specs.Moves.{Store, move_store, took_store, enter_homes, wanted_of}
use Rattle.meaning.specs.Meaning.{Columns}
use Rattle.meaning.specs.Walks.{Good, held_c, full_c, seek_c}
use Rattle.meaning.specs.Passes.{PassedC, RanC, first_c, rest_c, end_c, run_c}
use Rattle.meaning.proofs.Kept.{check_keeps, pass_keeps, move_keeps}
use Rattle.meaning.proofs.First.{first_numbers}
use Rattle.settle_rules.specs.Facts.{BlankFrom, OpensAtMost}
use Rattle.meaning.proofs.Through.{Steps, each_snoc, each_cond, seek_through, serve_through, second_through}

-- ---- a move stores where its slot stands

move_other : (class : List ℕ) (f : Fixed) (p j q : ℕ) → (q ≡ j → ⊥) → (s : Store)
    → (get_or (move_store class f p j s).ints q 0 ≡ get_or s.ints q 0) × (get_or (move_store class f p j s).exts q 0 ≡ get_or s.exts q 0)
unfolding move_store took_store enter_homes
move_other class f p j q other s =
    by_bool (leb f.places p)
    (λ e. rw e (refl, refl))
    (λ e. by_bool (eqb (wanted_of f p j s) 0)
    (λ z. rw (e, z) (refl, refl))
    (λ z. rw (e, z) (get_or-set_other s.ints j q _ 0 other, get_or-set_other s.exts j q _ 0 other)))

-- ---- a slot is opened

-- the cells behind it
behind : {s : ℕ} {m : Columns} {numbers : List ℕ} (v : ℕ) → BlankFrom s m numbers → BlankFrom (s + 1) m (set numbers s v)
behind {s} {m} {numbers} v h = record {
  number0 = λ j a b. get_or-set_other numbers s j v 0 (λ e. omega arith) ∙ h.number0 j (omega arith) b;
  ints0 = λ j a b. h.ints0 j (omega arith) b;
  exts0 = λ j a b. h.exts0 j (omega arith) b;
}

-- it holds nothing, and is dropped
dropped : {s : ℕ} {m : Columns} {numbers : List ℕ} → s < length numbers → held_c s m ≡ 0 → BlankFrom (s + 1) m numbers → BlankFrom s m (set numbers s 0)
dropped {s} {m} {numbers} l z h = record {
  number0 = λ j a b. by_bool (eqb j s)
      (λ e. rw (eqb-true j s e) (get_or-set_same numbers s 0 0 l))
      (λ e. let n = eqb-false j s e in get_or-set_other numbers s j 0 0 n ∙ h.number0 j (omega arith) b);
  ints0 = λ j a b. by_bool (eqb j s)
      (λ e. rw (eqb-true j s e) (omega arith))
      (λ e. let n = eqb-false j s e in h.ints0 j (omega arith) b);
  exts0 = λ j a b. by_bool (eqb j s)
      (λ e. rw (eqb-true j s e) (omega arith))
      (λ e. let n = eqb-false j s e in h.exts0 j (omega arith) b);
}

module _ (class cost : List ℕ) (f : Fixed) where
  -- ---- the walks

  steps : (s : ℕ) → s ≤ 64 → (numbers : List ℕ) → f.places ≤ 256
      → Steps class cost f s (λ m. Good f cost m × BlankFrom s m numbers) (λ m. BlankFrom s m numbers)
  steps s few numbers fit = record {
    check = λ p l m h. (check_keeps h.0 class p l, record { number0 = h.1.number0; ints0 = h.1.ints0; exts0 = h.1.exts0 });
    pass = λ p l m h. (pass_keeps h.0 class p l, record { number0 = h.1.number0; ints0 = h.1.ints0; exts0 = h.1.exts0 });
    move = λ p j l jl m h. (
      move_keeps h.0 class p l j (omega arith),
      record {
        number0 = h.1.number0;
        ints0 = λ q a b. (move_other class f p j q (λ e. omega arith) m.store).0 ∙ h.1.ints0 q a b;
        exts0 = λ q a b. (move_other class f p j q (λ e. omega arith) m.store).1 ∙ h.1.exts0 q a b;
      },
    );
    sweep = λ i m h. record { number0 = h.1.number0; ints0 = h.1.ints0; exts0 = h.1.exts0 };
    bill = λ m h. record { number0 = h.number0; ints0 = h.ints0; exts0 = h.exts0 };
    parties = λ m h. h.0.parties;
    places = fit;
  }

  -- ---- the first pass

  abbrev Blank : PassedC → Type 0
  Blank x = Good f cost x.run.now × BlankFrom x.slots x.run.now x.number

  first_blank : (n : ℕ) (line numbers : List ℕ) (slots last i : ℕ) (m : Columns) → Each (λ x. x < slots) line → slots + n ≤ 64 → length numbers ≡ 64
      → Good f cost m → BlankFrom slots m numbers → Blank (first_c class cost f n line numbers slots last i m)
  unfolding first_c
  first_blank zero line numbers slots last i m a b l g h =
      serve_through (steps slots (omega arith) numbers g.store.places_fit) line (f.places - i) i a (λ x y. omega (arith, g.store.places_fit)) m
      (g, h)
  first_blank (suc n) line numbers slots last i m a b l g h =
      let w = seek_c class cost f slots (f.places - i) i m in
      let more = set numbers slots (last + 1) in
      let long : length more ≡ 64 = simp length-set l in
      let u = seek_through (steps (slots + 1) (omega arith) more g.store.places_fit) slots (f.places - i) i (omega arith)
      (λ x y. omega (arith, g.store.places_fit)) m (g, behind (last + 1) h) in
      let line' = each_map (λ x. x < slots) (λ x. x < slots + 1) (λ x y. omega arith) line a in
      by_bool (eqb (held_c slots w.now) 0)
      (λ e. rw e (u.0, dropped (omega arith) (eqb-true _ _ e) u.1))
      (λ e. rw e (first_blank n _ more (slots + 1) (last + 1) w.at w.now
      (each_cond (slots + 1) (full_c f.height (held_c slots w.now)) line (line ++ (slots ∷ [])) line'
      (each_snoc (slots + 1) line slots line' (omega arith)))
      (omega arith) long u.0 u.1))

  first_slots : (n : ℕ) (line numbers : List ℕ) (slots last i : ℕ) (m : Columns) → length numbers ≡ 64
      → let x = first_c class cost f n line numbers slots last i m in OpensAtMost n slots last x.slots x.last x.number
  unfolding first_c
  first_slots zero line numbers slots last i m l = record {
    more = le_refl slots;
    most = omega arith;
    long = l;
    last_more = le_refl last;
    last_most = omega arith;
  }
  first_slots (suc n) line numbers slots last i m l =
      let w = seek_c class cost f slots (f.places - i) i m in
      let long : length (set numbers slots (last + 1)) ≡ 64 = simp length-set l in
      by_bool (eqb (held_c slots w.now) 0)
      (λ e. rw e (record { more = le_refl slots; most = omega arith; long = simp length-set l; last_more = omega arith; last_most = omega arith }))
      (λ e. rw e (let go = first_slots n (cond (full_c f.height (held_c slots w.now)) line (line ++ (slots ∷ []))) (set numbers slots (last + 1))
      (slots + 1) (last + 1) w.at w.now long in
      record {
        more = omega (arith, go.more);
        most = omega (arith, go.most);
        long = go.long;
        last_more = omega (arith, go.last_more);
        last_most = omega (arith, go.last_most);
      }))

  first_new : (n : ℕ) (line numbers : List ℕ) (slots last i : ℕ) (m : Columns) → slots + n ≤ 64 → length numbers ≡ 64
      → let x = first_c class cost f n line numbers slots last i m in (j : ℕ) → slots ≤ j → j < x.slots → last < get_or x.number j 0
  unfolding first_c
  first_new zero line numbers slots last i m b l j x y = absurd (omega arith)
  first_new (suc n) line numbers slots last i m b l j x y =
      let w = seek_c class cost f slots (f.places - i) i m in
      let more = set numbers slots (last + 1) in
      let long : length more ≡ 64 = simp length-set l in
      let line' = cond (full_c f.height (held_c slots w.now)) line (line ++ (slots ∷ [])) in
      by_bool (eqb (held_c slots w.now) 0)
      (λ e. absurd (let k = rw e at y in omega arith))
      (λ e. let k = rw e at y in rw e (by_bool (eqb j slots)
      (λ d. let same = (first_numbers class cost f n line' more (slots + 1) (last + 1) w.at w.now).same slots (omega arith) in
      let here = get_or-set_same numbers slots (last + 1) 0 (omega arith) in
      rw (eqb-true j slots d) (omega (arith, same, here)))
      (λ d. let z = eqb-false j slots d in
      omega (arith, first_new n line' more (slots + 1) (last + 1) w.at w.now (omega arith) long j (omega arith) k))))

  -- ---- a run

  module _ (n : ℕ) (xs numbers : List ℕ) (slots last : ℕ) (m : Columns) where
    abbrev x : RanC
    x = run_c class cost f n xs numbers slots last m

    pub run_blank : slots + n ≤ 64 → length numbers ≡ 64 → Good f cost m → BlankFrom slots m numbers → BlankFrom x.slots x.now x.number
    unfolding run_c end_c rest_c
    run_blank b l g h =
        let a = first_c class cost f n [] numbers slots last 0 m in
        let o = first_slots n [] numbers slots last 0 m l in
        let k = steps a.slots (omega (arith, o.most)) a.number g.store.places_fit in
        k.bill _ (k.sweep _ _ (second_through k a.number slots o.more xs a.run.at a.run.now
        (first_blank n [] numbers slots last 0 m tt b l g h)))

    pub run_slots : length numbers ≡ 64 → OpensAtMost n slots last x.slots x.last x.number
    unfolding run_c end_c rest_c
    run_slots l = first_slots n [] numbers slots last 0 m l

    -- the slots that stood keep their numbers
    pub run_numbers : (j : ℕ) → j < slots → get_or x.number j 0 ≡ get_or numbers j 0
    unfolding run_c end_c rest_c
    run_numbers = (first_numbers class cost f n [] numbers slots last 0 m).same

    -- those that were opened have numbers above the last
    pub run_new : slots + n ≤ 64 → length numbers ≡ 64 → (j : ℕ) → slots ≤ j → j < x.slots → last < get_or x.number j 0
    unfolding run_c end_c rest_c
    run_new b l = first_new n [] numbers slots last 0 m b l
