-- The end of a fill: the rows still held are the messages of the order, `left_is`; and one operation more for each place is one for each
-- account of the order, `end_sim`. Assumes nothing.
use mathlib.Core.Path.{◌≡◌, refl, sym, ap, ◌∙◌}
use mathlib.Core.List.{List, [], ◌∷◌}
use mathlib.Core.Bool.{Bool, false, cond}
use Prim.Native.Nat.{ℕ, zero, suc, ◌+◌, ◌<◌}
use native.Mathlib.Omega.{arith}
use lib.Dec.{eqb, leb, ltb}
use lib.ListN.{length, length-append}
use borrow.Author.Tests.{eqb-true, eqb-false, le-leb, lt-leb, lt-ltb, le-ltb, leb-true, leb-false}
use Rattle.numbers.proofs.Bytes.{by_bool}
use Rattle.rules.specs.World.{World, Args, joined}
use Rattle.rules.specs.Queues.{accounts, all_msgs}
use Rattle.rules.specs.Passes.{State}
use Rattle.columns.specs.Lists.{tab_i, count_i}
use Rattle.columns.proofs.Tabs.{length_tab, length_pick}
use Rattle.moves.specs.declared.Fixed.{Fixed}
use Rattle.moves.specs.Moves.{with_tally, costs as spends}
use Rattle.moves.proofs.Keeps.{tally_good}
use Rattle.meaning.specs.Meaning.{Numbers, Columns, columns_of, Setting, state_of, order_row, Agrees}
use Rattle.meaning.specs.Passes.{left_c}
use Rattle.meaning.specs.Means.{Means, billed}
use Rattle.meaning.proofs.Keeps.{costs}

-- ---- what is still held

abbrev within : (i a o : ℕ) → Bool
within i a o = cond (leb i o) (ltb o a) false

count_cong : (g h : ℕ → ℕ → Bool) → ((j o : ℕ) → g j o ≡ h j o) → (m k : ℕ) (os : List ℕ) → count_i g m k os ≡ count_i h m k os
unfolding count_i
count_cong g h e zero k os = refl
count_cong g h e (suc m) k [] = refl
count_cong g h e (suc m) k (o ∷ os) = rw (e k o, count_cong g h e m (k + 1) os)

none_within : (i : ℕ) (m k : ℕ) (os : List ℕ) → count_i (λ j o. within i i o) m k os ≡ 0
unfolding count_i
none_within i zero k os = refl
none_within i (suc m) k [] = refl
none_within i (suc m) k (o ∷ os) =
    let r = none_within i m (k + 1) os in
    by_bool (leb i o)
    (λ y. rw (y, le-ltb o i (leb-true i o y)) (omega arith))
    (λ y. rw y (omega arith))

-- the first place apart
split_within : (i a : ℕ) → i < a → (m k : ℕ) (os : List ℕ)
    → count_i (λ j o. eqb o i) m k os + count_i (λ j o. within (i + 1) a o) m k os ≡ count_i (λ j o. within i a o) m k os
unfolding count_i
split_within i a l zero k os = refl
split_within i a l (suc m) k [] = refl
split_within i a l (suc m) k (o ∷ os) =
    let r = split_within i a l m (k + 1) os in
    by_bool (eqb o i)
    (λ e. let z = eqb-true o i e in
    rw (e, lt-leb (i + 1) o (omega arith), le-leb i o (omega arith), lt-ltb o a (omega arith)) (omega arith))
    (λ e. let z = eqb-false o i e in by_bool (leb i o)
    (λ y. rw (e, y, le-leb (i + 1) o (let w = leb-true i o y in omega arith)) (by_bool (ltb o a) (λ t. rw t (omega arith)) (λ t. rw t (omega arith))))
    (λ y. rw (e, y, lt-leb (i + 1) o (let w = leb-false i o y in omega arith)) (omega arith)))

module _ (ext : ℕ → Bool) (time : ℕ → ℕ) (n : ℕ) (os : List ℕ) where
  abbrev W : World
  W = Numbers ext time

  all_within : (m i a : ℕ) → a ≡ i + m → length (all_msgs W (tab_i m i (order_row ext time n os))) ≡ count_i (λ j o. within i a o) n 0 os
  unfolding all_msgs joined tab_i
  all_within zero i a e = let z : a ≡ i = omega arith in rw z (sym (none_within i n 0 os))
  all_within (suc m) i a e =
      let r = all_within m (i + 1) a (omega arith) in
      let q = length_pick (λ (j : ℕ). j) i n 0 os in
      simp length-append (omega (arith, r, q, split_within i a (omega arith) n 0 os))

  pub left_is : (a : ℕ) → length (all_msgs W (tab_i a 0 (order_row ext time n os))) ≡ left_c n a os
  unfolding left_c
  left_is a =
      all_within a 0 a (omega arith)
      ∙ count_cong (λ j o. within 0 a o) (λ j o. ltb o a) (λ j o. rw (le-leb 0 o (omega arith))) n 0 os

  pub accounts_are : (m i : ℕ) → accounts W (tab_i m i (order_row ext time n os)) ≡ tab_i m i (λ (p : ℕ). p)
  unfolding accounts tab_i
  accounts_are zero i = refl
  accounts_are (suc m) i = ap (λ (l : List ℕ). i ∷ l) (accounts_are m (i + 1))

-- ---- the operations of the end

module _ (ext : ℕ → Bool) (time : ℕ → ℕ) (A : Args (Numbers ext time)) (class cost : List ℕ) (f : Fixed) (b : Setting)
    (a : Agrees ext time A class cost f) {m : Columns} {σ : State (Numbers ext time)} (v : Means ext time A cost f b m σ) where
  abbrev ended : Columns
  ended = columns_of (with_tally m.store (spends m.store.tally f.places)) m.mark m.joined

  billed_is : billed (state_of ext time f b v.ops m) ≡ state_of ext time f b (v.ops + f.places) ended
  unfolding billed state_of
  billed_is = rw (length_tab f.places 0 (order_row ext time f.rows m.store.owner))

  pub end_sim : Means ext time A cost f b ended (billed σ)
  end_sim = record {
    ops = v.ops + f.places;
    good = record {
      store = tally_good f m.store _ v.good.store refl refl;
      marks = record {
        mark_long = v.good.marks.mark_long;
        joined_long = v.good.marks.joined_long;
        joins = v.good.marks.joins;
      };
      cost_long = v.good.cost_long;
      parties = v.good.parties;
      homes = v.good.homes;
    };
    fits = costs ext time A class cost f b v.ops m a v.fits 0 (omega arith) f.places _ (omega (arith, v.fits.total));
    state = ap (λ (x : State (Numbers ext time)). billed x) v.state ∙ billed_is;
  }
