-- The turns of the loop along a slot's own accounts, and the branches of a visit, each a lemma over the shut rules on columns. The rule looks
-- at every member; those that the roster leaves out live in other slots, and the rule passes them by (`own_skips`). Nobody whom the loop
-- tries enters the group or leaves it, so the roster stays right. Assumes nothing.
use mathlib.Core.Path.{◌≡◌, refl, sym, ap, ◌∙◌}
use mathlib.Core.List.{List}
use mathlib.Core.Bool.{Bool, true, false, cond, not}
use Prim.Native.Nat.{ℕ, ◌+◌, ◌-◌, ◌<◌, ◌≤◌}
use native.Mathlib.Nat.{sub-eq-zero_of_le, sub-zero}
use native.Mathlib.Omega.{arith}
use lib.Dec.{eqb, ltb}
use lib.ListN.{get_or}
use borrow.Author.Tests.{eq-eqb, ne_eqb, ltb-true, ltb-false}
use Rattle.numbers.proofs.Bytes.{by_bool}
use Rattle.columns.proofs.Scans.{turns}
use Rattle.moves.specs.declared.Fixed.{Fixed}
use Rattle.moves.specs.Moves.{nowhere}
use Rattle.moves.proofs.Chains.{climb}
use Rattle.meaning.specs.Meaning.{Columns}
use Rattle.meaning.specs.Walks.{Ready, skip_c, says_skip, held_c, full_c, WalkC, walk, try_c, reach_c, own_c, visit_c}
use Rattle.meaning.proofs.Kept.{try_keeps, try_more, try_home, try_party, own_keeps}
use Rattle.rosters.specs.Rosters.{first_in, next_in, home_in, Listed}
use Rattle.rosters.proofs.Rosters.{listed_same}

-- where member g lives
abbrev lives_at : Columns → ℕ → ℕ
lives_at m g = home_in m.store.home m.store.member g

module _ (class cost : List ℕ) (f : Fixed) (j : ℕ) where
  -- what the members from g on, of `count`, make of the columns
  abbrev pub Own : ℕ → ℕ → Columns → Columns
  Own count g m = own_c class cost f j (count - g) g m

  own_turn : (count g : ℕ) (m : Columns) → g < count
      → let t = try_c class cost f j (get_or m.store.member g 0) m in
      Own count g m ≡ cond (eqb (lives_at m g) j)
      (cond (cond (not (skip_c (get_or m.store.member g 0) m)) (full_c f.height (held_c j t)) false) t (Own count (g + 1) t)) (Own count (g + 1) m)
  unfolding own_c
  own_turn count g m l = rw (turns count g l)

  own_none : (count g : ℕ) (m : Columns) → count ≤ g → Own count g m ≡ m
  unfolding own_c
  own_none count g m l = rw (sub-eq-zero_of_le l)

  -- members of other slots are passed by
  own_skips : (count i k : ℕ) (m : Columns) → i ≤ k → ((g : ℕ) → g < count → i ≤ g → g < k → lives_at m g ≡ j → ⊥) → Own count k m ≡ Own count i m
  own_skips count i k m le others =
      climb (λ g. Own count g m ≡ Own count i m) (k - i) i k (omega arith)
      (λ g a b h. by_bool (ltb g count)
      (λ t. let l = ltb-true g count t in sym (own_turn count g m l ∙ rw (ne_eqb (lives_at m g) j (others g l a b))) ∙ h)
      (λ t. let l = ltb-false g count t in own_none count (g + 1) m (omega arith) ∙ sym (own_none count g m l) ∙ h))
      refl

  -- the loop stands at member g of the slot, or past the members; what is left makes of the columns what the whole makes of those at entry
  pub record Along (roster : List ℕ) (count : ℕ) (goal : Columns) (g : ℕ) (m : Columns) : Type 0 where
    pub ready : Ready f class cost m
    pub listed : Listed roster count m.store.home m.store.member
    pub more : count ≤ m.store.tally.accounts
    pub mine : g < count → lives_at m g ≡ j
    pub same : Own count g m ≡ goal

  module _ (jl : j < 64) {roster : List ℕ} where
    pub own_start : {m : Columns} → Ready f class cost m → Listed roster m.store.tally.accounts m.store.home m.store.member → {g : ℕ}
        → g ≡ first_in roster j → Along roster m.store.tally.accounts (own_c class cost f j m.store.tally.accounts 0 m) g m
    own_start {m} ready l {g} e =
        let count = m.store.tally.accounts in
        record {
          ready = ready;
          listed = l;
          more = omega arith;
          mine = λ h. ap (lives_at m) e ∙ (l.first_own j jl (omega (arith, ready.good.store.enters))).1;
          same = own_skips count 0 g m (omega arith) (λ h a b c z. omega (arith, l.first_least j h jl a z)) ∙ rw sub-zero;
        }

    module _ {count : ℕ} {goal : Columns} {g : ℕ} {m : Columns} (v : Along roster count goal g m) where
      abbrev q : ℕ
      q = get_or m.store.member g 0

      pub own_end : count ≤ g → m ≡ goal
      unfolding own_c
      own_end h = rw (sub-eq-zero_of_le h) at v.same

      module _ (h : g < count) where
        pub own_party : q < 1280
        own_party = v.ready.good.parties g (omega (arith, v.more))

        pub own_above : {k : ℕ} → k ≡ next_in roster g → g < k
        own_above e = omega (arith, v.listed.next_above g h)

        module _ {p : ℕ} (a : p ≡ q) {t : Columns} (e : t ≡ try_c class cost f j p m) where
          e' : t ≡ try_c class cost f j q m
          e' = e ∙ ap (λ y. try_c class cost f j y m) a

          here : cond (cond (not (skip_c q m)) (full_c f.height (held_c j t)) false) t (Own count (g + 1) t) ≡ goal
          here = rw e' (rw (eq-eqb (lives_at m g) j (v.mine h)) at (sym (own_turn count g m h) ∙ v.same))

          -- the party has a home, so that it does not enter
          lodged : eqb (get_or m.store.home q 0) nowhere ≡ false
          lodged = ne_eqb (lives_at m g) nowhere (λ z. omega (arith, v.mine h))

          homes_stay : (x : ℕ) → lives_at t x ≡ lives_at m x
          homes_stay x = rw (e', try_home class cost f j q m lodged, try_party class cost f j q m lodged)

          module _ {s y : Bool} (d : s ≡ says_skip (get_or m.mark p 0)) {n : ℕ} (w : n ≡ held_c j t) (b : y ≡ cond (not s) (full_c f.height n) false) where
            test : y ≡ cond (not (skip_c q m)) (full_c f.height (held_c j t)) false
            test = rw (d, a, w) at b

            pub own_stop : y ≡ true → t ≡ goal
            own_stop z = rw (sym test ∙ z) at here

            pub own_on : y ≡ false → {k : ℕ} → k ≡ next_in roster g → Along roster count goal k t
            own_on z {k} n =
                let l = v.listed in
                let lt : Listed roster count t.store.home t.store.member = listed_same l (λ x c. homes_stay x) in
                let on : Own count (g + 1) t ≡ goal = rw (sym test ∙ z) at here in
                record {
                  ready = rw e' (try_keeps v.ready j q own_party jl);
                  listed = lt;
                  more = rw e' (omega (arith, v.more, try_more class cost f j q m));
                  mine = λ c. homes_stay k ∙ ap (lives_at m) n ∙ (l.next_own g h (omega (arith, v.more, v.ready.good.store.enters))).1 ∙ v.mine h;
                  same = own_skips count (g + 1) k t (omega (arith, own_above n))
                      (λ x c i o u. omega (arith, l.next_least g x (omega arith) c (sym (homes_stay x) ∙ u ∙ sym (v.mine h)))) ∙ on;
                }

module _ (class cost : List ℕ) (f : Fixed) (j i : ℕ) (m : Columns) {t : Columns} (e : t ≡ own_c class cost f j m.store.tally.accounts 0 m) where
  pub owned_ready : j < 64 → Ready f class cost m → Ready f class cost t
  owned_ready jl g = rw e (own_keeps class cost f j jl m.store.tally.accounts 0 m g (omega arith))

  pub visit_full : {x : Bool} {n : ℕ} → n ≡ held_c j t → x ≡ full_c f.height n → x ≡ true → walk i t ≡ visit_c class cost f j i m
  unfolding visit_c
  visit_full h a c = rw (← e, sym (rw h at a) ∙ c)

  pub visit_reach : {x : Bool} {n : ℕ} → n ≡ held_c j t → x ≡ full_c f.height n → x ≡ false
      → {w : WalkC} → w ≡ reach_c class cost f j (f.places - i) i t → w ≡ visit_c class cost f j i m
  unfolding visit_c
  visit_reach h a c r = rw (← e, sym (rw h at a) ∙ c) r
