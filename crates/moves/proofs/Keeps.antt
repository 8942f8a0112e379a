-- A check, passing over and a move leave well-formed columns well formed: what is taken, joins or enters leaves the number of those that
-- still may. Assumes nothing.
use mathlib.Core.Path.{◌≡◌, refl, sym, ap, ◌∙◌}
use mathlib.Core.List.{List, [], ◌∷◌}
use mathlib.Core.Bool.{Bool, true, false, cond}
use Prim.Native.Nat.{ℕ, zero, suc, ◌+◌, ◌-◌, ◌<◌, ◌≤◌}
use native.Mathlib.Omega.{arith}
use lib.Dec.{eqb, leb}
use lib.ListN.{length, get_or, set, length-set}
use lib.Seq.{get_or-set_same, get_or-set_other}
use borrow.Author.Tests.{eq-eqb, ne_eqb, eqb-true, eqb-false, lt-ltb, le-ltb, leb-false}
use Rattle.moves.specs.declared.Tally.{Tally}
use Rattle.moves.specs.declared.Fixed.{Fixed}
use Rattle.columns.specs.Lists.{map_i, count_i}
use Rattle.moves.specs.Moves.{Marks, check_marks, gone, pass_cell, pass_owners, take_c, Taking, Store, store, took_store, Homes, enter_homes, with_homes, move_store, wanted_of, wanted_c, held_at, nowhere, tally, with_tally}
use Rattle.moves.specs.Good.{GoodMarks, GoodStore, live, many}
use Rattle.numbers.proofs.Bytes.{by_bool}
use Rattle.columns.specs.Laid.{laid_at}
use Rattle.columns.proofs.Laid.{length_laid}
use Rattle.columns.proofs.Scans.{length_map_i}
use Rattle.moves.proofs.Counts.{many_set}

-- ---- a check
pub check_good : (cost : List ℕ) (p : ℕ) (m : Marks) → p < 1280 → GoodMarks m → GoodMarks (check_marks cost p m)
unfolding check_marks
check_good cost p m l g =
    by_bool (eqb (get_or m.mark p 0) 2)
    (λ e. rw e (record { mark_long = g.mark_long; joined_long = g.joined_long; joins = g.joins }))
    (λ e. rw e (by_bool (eqb (get_or m.mark p 0) 1)
    (λ h. let r = many_set (eqb 1) m.mark p 2 (omega (arith, g.mark_long)) (eq-eqb 1 (get_or m.mark p 0)
    (sym (eqb-true (get_or m.mark p 0) 1 h))) (ne_eqb 1 2 (λ z. omega arith)) in
    rw h (record { mark_long = simp length-set g.mark_long; joined_long = simp length-set g.joined_long; joins = omega (arith, g.joins, r) }))
    (λ h. rw h (record { mark_long = g.mark_long; joined_long = g.joined_long; joins = g.joins }))))

-- ---- passing over
one : (b : Bool) → cond b 1 0 ≤ 1
one true = omega arith
one false = omega arith

dead : (i : ℕ) → live i gone ≡ false
dead i = le-ltb gone 256 (omega arith)

pass_live : (class : List ℕ) (p m i : ℕ) (os : List ℕ) → count_i live m i (map_i (pass_cell class p) m i os) ≤ count_i live m i os
unfolding map_i count_i
pass_live class p zero i os = omega arith
pass_live class p (suc m) i [] = omega arith
pass_live class p (suc m) i (o ∷ os) =
    let r = pass_live class p m (i + 1) os in
    by_bool (eqb o p)
    (λ e. by_bool (eqb (get_or class i 0) 2) (λ f. simp (e, f, dead i) (omega arith)) (λ f. simp (e, f) (omega arith)))
    (λ e. simp e (omega arith))

abbrev pub with_owner : Store → List ℕ → Store
with_owner s os = record { owner = os; taken = s.taken; home = s.home; member = s.member; ints = s.ints; exts = s.exts; tally = s.tally }

pub pass_good : (class : List ℕ) (f : Fixed) (p : ℕ) (s : Store) → GoodStore f s → GoodStore f (with_owner s (pass_owners class f.rows p s.owner))
unfolding pass_owners
pass_good class f p s g = record {
  owner_long = length_map_i (pass_cell class p) f.rows 0 s.owner ∙ g.owner_long;
  taken_long = g.taken_long;
  home_long = g.home_long;
  member_long = g.member_long;
  ints_long = g.ints_long;
  exts_long = g.exts_long;
  rows_fit = g.rows_fit;
  places_fit = g.places_fit;
  height_fit = g.height_fit;
  small = g.small;
  takes = omega (arith, g.takes, pass_live class p f.rows 0 s.owner);
  enters = g.enters;
}

pub tally_good : (f : Fixed) (s : Store) (t : Tally) → GoodStore f s → t.taken ≡ s.tally.taken → t.accounts ≡ s.tally.accounts
    → GoodStore f (with_tally s t)
tally_good f s t g a b = record {
  owner_long = g.owner_long;
  taken_long = g.taken_long;
  home_long = g.home_long;
  member_long = g.member_long;
  ints_long = g.ints_long;
  exts_long = g.exts_long;
  rows_fit = g.rows_fit;
  places_fit = g.places_fit;
  height_fit = g.height_fit;
  small = g.small;
  takes = rw a g.takes;
  enters = rw b g.enters;
}

-- ---- a take
module _ (p : ℕ) (class : List ℕ) where
  pub take_few : (k m i : ℕ) (os : List ℕ) → length (take_c p class k m i os).rows ≤ k
  take_few k zero i os = omega arith
  take_few zero (suc m) i os = omega arith
  take_few (suc k) (suc m) i [] = omega arith
  take_few (suc k) (suc m) i (o ∷ os) =
      by_bool (eqb o p)
      (λ e. by_bool (eqb (get_or class i 0) 2)
      (λ f. simp (e, f) (take_few (suc k) m (i + 1) os))
      (λ f. let r = take_few k m (i + 1) os in simp (e, f) (omega arith)))
      (λ e. simp e (take_few (suc k) m (i + 1) os))

  pub take_fewer : (k m i : ℕ) (os : List ℕ) → (take_c p class k m i os).ints ≤ length (take_c p class k m i os).rows
  take_fewer k zero i os = omega arith
  take_fewer zero (suc m) i os = omega arith
  take_fewer (suc k) (suc m) i [] = omega arith
  take_fewer (suc k) (suc m) i (o ∷ os) =
      by_bool (eqb o p)
      (λ e. by_bool (eqb (get_or class i 0) 2)
      (λ f. simp (e, f) (take_fewer (suc k) m (i + 1) os))
      (λ f. let r = take_fewer k m (i + 1) os in let u = one (eqb (get_or class i 0) 0) in simp (e, f) (omega arith)))
      (λ e. simp e (take_fewer (suc k) m (i + 1) os))

  take_length : (k m i : ℕ) (os : List ℕ) → length (take_c p class k m i os).owners ≡ length os
  take_length k zero i os = refl
  take_length zero (suc m) i os = refl
  take_length (suc k) (suc m) i [] = refl
  take_length (suc k) (suc m) i (o ∷ os) =
      by_bool (eqb o p)
      (λ e. by_bool (eqb (get_or class i 0) 2)
      (λ f. simp (e, f) (ap suc (take_length (suc k) m (i + 1) os)))
      (λ f. simp (e, f) (ap suc (take_length k m (i + 1) os))))
      (λ e. simp e (ap suc (take_length (suc k) m (i + 1) os)))

  take_live : p < 256 → (k m i : ℕ) (os : List ℕ) → length (take_c p class k m i os).rows + count_i live m i
      (take_c p class k m i os).owners ≤ count_i live m i os
  unfolding count_i
  take_live l k zero i os = omega arith
  take_live l zero (suc m) i os = omega arith
  take_live l (suc k) (suc m) i [] = omega arith
  take_live l (suc k) (suc m) i (o ∷ os) =
      by_bool (eqb o p)
      (λ e.
      let a : live i o ≡ true = lt-ltb o 256 (omega (arith, eqb-true o p e)) in
      by_bool (eqb (get_or class i 0) 2)
      (λ f. let r = take_live l (suc k) m (i + 1) os in simp (e, f, dead i, a) (omega arith))
      (λ f. let r = take_live l k m (i + 1) os in let d : live i (2048 + p) ≡ false = le-ltb (2048 + p) 256 (omega arith) in simp (e, f, a, d)
      (omega arith)))
      (λ e. let r = take_live l (suc k) m (i + 1) os in simp e (omega arith))

-- ---- a move

-- what each branch has where its test holds, the choice has
chosen : {A : Type 0} (P : A → Type 0) (b : Bool) {x y : A} → (b ≡ true → P x) → (b ≡ false → P y) → P (cond b x y)
chosen P true f g = f refl
chosen P false f g = g refl

module _ (class : List ℕ) (f : Fixed) (p j : ℕ) (s : Store) (l : p < 1280) (jl : j < 64) (g : GoodStore f s) where
  abbrev T : Taking
  T = take_c p class (wanted_of f p j s) f.rows 0 s.owner

  room_kept : length T.rows + held_at s.ints s.exts j ≤ 16
  unfolding wanted_c
  room_kept = omega (arith, take_few p class (wanted_of f p j s) f.rows 0 s.owner, g.small j jl, g.height_fit)

  abbrev is' : List ℕ
  is' = set s.ints j (get_or s.ints j 0 + T.ints)

  abbrev es' : List ℕ
  es' = set s.exts j (get_or s.exts j 0 + (length T.rows - T.ints))

  small' : (i : ℕ) → i < 64 → held_at is' es' i ≤ 16
  small' i h =
      by_bool (eqb j i)
      (λ e. let z = eqb-true j i e in
      rw (
        ← z,
        get_or-set_same s.ints j (get_or s.ints j 0 + T.ints) 0 (omega (arith, g.ints_long)),
        get_or-set_same s.exts j
            (get_or s.exts j 0 + (length T.rows - T.ints)) 0 (omega (arith, g.exts_long)),
      )
      (omega (arith, room_kept, take_fewer p class (wanted_of f p j s) f.rows 0 s.owner)))
      (λ e. let z : i ≡ j → ⊥ = λ u. eqb-false j i e (sym u) in
      rw (
        get_or-set_other s.ints j i (get_or s.ints j 0 + T.ints) 0 z,
        get_or-set_other s.exts j i
            (get_or s.exts j 0 + (length T.rows - T.ints)) 0 z,
      ) (g.small i h))

  made : (hs ps : List ℕ) (n o : ℕ) → p < 256 → length hs ≡ 1280 → length ps ≡ 1280 → n + many (eqb nowhere) hs ≤ 1280
      → GoodStore f (store T.owners (laid_at s.tally.taken T.rows s.taken) hs ps is' es'
      (tally s.tally.joined n (s.tally.taken + length T.rows) o))
  made hs ps n o q a b c =
      let u = take_live p class q (wanted_of f p j s) f.rows 0 s.owner in
      record {
        owner_long = take_length p class (wanted_of f p j s) f.rows 0 s.owner ∙ g.owner_long;
        taken_long = length_laid s.tally.taken T.rows s.taken (omega (arith, u, g.takes, g.rows_fit, g.taken_long)) ∙ g.taken_long;
        home_long = a;
        member_long = b;
        ints_long = simp length-set g.ints_long;
        exts_long = simp length-set g.exts_long;
        rows_fit = g.rows_fit;
        places_fit = g.places_fit;
        height_fit = g.height_fit;
        small = small';
        takes = omega (arith, u, g.takes);
        enters = c;
      }

  abbrev left : Homes → Store
  left h = with_homes s j T h

  pub move_good : GoodStore f (move_store class f p j s)
  unfolding move_store took_store enter_homes
  move_good =
      chosen (GoodStore f) (leb f.places p)
      (λ e. g)
      (λ e. let q : p < 256 = omega (arith, leb-false f.places p e, g.places_fit) in
      chosen (GoodStore f) (eqb (wanted_of f p j s) 0)
      (λ z. tally_good f s _ g refl refl)
      (λ z. chosen (λ h. GoodStore f (left h)) (eqb (get_or s.home p 0) nowhere)
      (λ h. chosen (λ h. GoodStore f (left h)) (eqb (length T.rows) 0)
      (λ w. made s.home s.member s.tally.accounts _ q g.home_long g.member_long g.enters)
      (λ w.
      let r = many_set (eqb nowhere) s.home p j (omega (arith, g.home_long)) (eq-eqb nowhere (get_or s.home p 0)
      (sym (eqb-true (get_or s.home p 0) nowhere h))) (ne_eqb nowhere j (λ x. omega arith)) in
      made (set s.home p j) (set s.member s.tally.accounts p) (s.tally.accounts + 1) _ q (simp length-set g.home_long)
      (simp length-set g.member_long) (omega (arith, r, g.enters))))
      (λ h. made s.home s.member s.tally.accounts _ q g.home_long g.member_long g.enters)))
