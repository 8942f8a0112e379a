-- The turns of the loops of the second pass, each a lemma over the shut rules on columns: what is left to do makes of what stands now what the
-- whole makes of the entry. Assumes nothing.
use mathlib.Core.Path.{◌≡◌, ap, ◌∙◌}
use mathlib.Core.Logic.{◌⊎◌, inl, inr, ⊎_elim}
use mathlib.Core.List.{List}
use mathlib.Core.Bool.{cond}
use Prim.Native.Nat.{ℕ, ◌+◌, ◌<◌, ◌≤◌}
use native.Mathlib.Omega.{arith}
use lib.Dec.{ltb}
use native.Mathlib.Numerals.{add-one}
use lib.ListN.{length, get_or, take, drop, drop_of_length-le}
use lib.Seq.{drop-cons}
use borrow.Author.Tests.{lt-ltb, le-ltb, ltb-true, ltb-false}
use Rattle.moves.specs.declared.Fixed.{Fixed}
use Rattle.numbers.proofs.Bytes.{by_bool}
use Rattle.meaning.specs.Meaning.{Columns}
use Rattle.meaning.specs.Walks.{Ready, WalkC, walk, visit_c}
use Rattle.meaning.specs.Passes.{position_from, second_c}
use Rattle.meaning.proofs.Kept.{visit_keeps}
use Rattle.meaning.proofs.Stands.{Stands, visit_stands}
use Rattle.rosters.specs.Rosters.{Listed}
use Rattle.rosters.proofs.Rosters.{listed_same}

lt_or_le : (x y : ℕ) → (x < y) ⊎ (y ≤ x)
lt_or_le x y = by_bool (ltb x y) (λ e. inl (ltb-true x y e)) (λ e. inr (ltb-false x y e))

past : {j e : ℕ} → (j < e → ⊥) → (j < e) ⊎ (e ≤ j) → e ≤ j
past n q = ⊎_elim (λ a. absurd (n a)) (λ a. a) q

-- ---- a visit

module _ {f : Fixed} {class cost : List ℕ} {j : ℕ} (jl : j < 64) {m : Columns} (ready : Ready f class cost m) (at : ℕ) {i : ℕ} {x : Columns}
    (w : walk i x ≡ visit_c class cost f j at m) where
  now_is : x ≡ (visit_c class cost f j at m).now
  now_is = ap (λ (z : WalkC). z.now) w

  pub visited_ready : Ready f class cost x
  visited_ready = rw now_is (visit_keeps class cost f j jl at m ready)

  visited_stands : Stands m x
  visited_stands = rw now_is (visit_stands class cost f m ready.good j at jl)

  pub visited_more : m.store.tally.accounts ≤ x.store.tally.accounts
  visited_more = visited_stands.more

  -- the roster of those who stood before the visit
  pub visited_listed : {roster : List ℕ} → Listed roster m.store.tally.accounts m.store.home m.store.member
      → Listed roster m.store.tally.accounts x.store.home x.store.member
  visited_listed l = listed_same l visited_stands.homes

-- ---- the second pass

-- no slot is listed
pub second_none : (class cost : List ℕ) (f : Fixed) (numbers : List ℕ) (e : ℕ) (xs : List ℕ) {count : ℕ} → count ≡ 0 → (at : ℕ) (m : Columns)
    → walk at m ≡ second_c class cost f numbers e (take count xs) at m
unfolding second_c
second_none class cost f numbers e xs z at m = rw z

pub record Second (class cost : List ℕ) (f : Fixed) (numbers : List ℕ) (e : ℕ) (goal : WalkC) (xs : List ℕ) (k at : ℕ) (roster : List ℕ)
    (m : Columns) : Type 0 where
  pub ready : Ready f class cost m
  pub listed : Listed roster m.store.tally.accounts m.store.home m.store.member
  pub same : second_c class cost f numbers e (drop k xs) at m ≡ goal

module _ {class cost : List ℕ} {f : Fixed} {numbers : List ℕ} {e : ℕ} {goal : WalkC} {xs : List ℕ} {k at : ℕ} {roster : List ℕ} {m : Columns}
    (v : Second class cost f numbers e goal xs k at roster m) where
  pub second_end : length xs ≤ k → walk at m ≡ goal
  unfolding second_c
  second_end h = rw (drop_of_length-le xs {i = k} h) at v.same

  module _ (h : k < length xs) {j : ℕ} (je : j ≡ position_from numbers (get_or xs k 0) e 0) where
    turn : cond (ltb j e) (second_c class cost f numbers e (drop (k + 1) xs) (visit_c class cost f j at m).at
        (visit_c class cost f j at m).now) (second_c class cost f numbers e (drop (k + 1) xs) at m) ≡ goal
    unfolding second_c
    turn = rw (je, add-one) (rw (drop-cons xs k 0 h) at v.same)

    pub second_past : (j < e → ⊥) → Second class cost f numbers e goal xs (k + 1) at roster m
    second_past n = record {
      ready = v.ready;
      listed = v.listed;
      same = rw (le-ltb j e (let q = lt_or_le j e in past n q)) at turn;
    }

    pub second_visits : j < e → e ≤ 64 → {i : ℕ} {x : Columns} → walk i x ≡ visit_c class cost f j at m
        → {roster' : List ℕ} → Listed roster' x.store.tally.accounts x.store.home x.store.member
        → Second class cost f numbers e goal xs (k + 1) i roster' x
    second_visits n s {i} {x} w r = record {
      ready = visited_ready (omega arith) v.ready at w;
      listed = r;
      same = ap (λ (z : WalkC). second_c class cost f numbers e (drop (k + 1) xs) z.at z.now) w ∙ (rw (lt-ltb j e n) at turn);
    }
