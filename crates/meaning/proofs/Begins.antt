-- `begins`: columns that hold a buffer, a group and a skipped set, with nothing taken, joined or spent, are well formed and mean the entry
-- of a fill. Assumes nothing.
use mathlib.Core.Path.{◌≡◌, refl, sym, ap, ◌∙◌}
use mathlib.Core.List.{List, [], ◌∷◌, append-nil}
use mathlib.Core.Bool.{Bool, true, false, cond}
use Prim.Native.Nat.{ℕ, zero, suc, ◌+◌, ◌<◌, ◌≤◌}
use native.Mathlib.Nat.{not-suc-le-zero, le_of_suc-le-suc}
use native.Mathlib.Omega.{arith}
use lib.Dec.{eqb, ltb}
use lib.ListN.{length, get_or, set, take, length-set}
use lib.Seq.{get_or-set_other}
use borrow.Author.Tests.{eq-eqb, ne_eqb, eqb-false, lt-ltb, ltb-true, ltb-false}
use Rattle.numbers.proofs.Bytes.{by_bool}
use Rattle.rules.specs.World.{World, Buffer, Group, Args, keep}
use Rattle.rules.specs.Queues.{is_in}
use Rattle.rules.specs.Passes.{entered}
use Rattle.columns.specs.Lists.{tab_i, count_i}
use Rattle.columns.proofs.Tabs.{tab_cong}
use Rattle.moves.specs.declared.Fixed.{Fixed}
use Rattle.moves.specs.Moves.{tally, store, nowhere}
use Rattle.moves.specs.Good.{GoodStore, many, live}
use Rattle.meaning.specs.Meaning.{Numbers, Columns, columns, Setting, state_of, Fits, row, group_row}
use Rattle.meaning.specs.Walks.{Good}
use Rattle.meaning.specs.Passes.{left_c}
use Rattle.meaning.specs.Begins.{Sizes, Begins, Begun}
use Rattle.meaning.proofs.Lists.{get_d_out, not_in}

-- ---- counts

one : (b : Bool) → cond b 1 0 ≤ 1
one true = omega arith
one false = omega arith

count_most : (h : ℕ → ℕ → Bool) (m i : ℕ) (xs : List ℕ) → count_i h m i xs ≤ m
unfolding count_i
count_most h zero i xs = omega arith
count_most h (suc m) i [] = omega arith
count_most h (suc m) i (x ∷ xs) = omega (arith, one (h i x), count_most h m (i + 1) xs)

many_most : (h : ℕ → Bool) (xs : List ℕ) → many h xs ≤ length xs
many_most h [] = omega arith
many_most h (x ∷ xs) = omega (arith, one (h x), many_most h xs)

many_put : (h : ℕ → Bool) (l : List ℕ) (p w : ℕ) → p < length l → h (get_or l p 0) ≡ false → h w ≡ true → many h (set l p w) ≡ many h l + 1
many_put h [] p w l e f = absurd (not-suc-le-zero l)
many_put h (x ∷ xs) zero w l e f = simp (e, f) (omega arith)
many_put h (x ∷ xs) (suc p) w l e f = let r = many_put h xs p w (le_of_suc-le-suc l) e f in omega arith

all_count : (a n k : ℕ) (os : List ℕ) → n ≤ length os → ((i : ℕ) → i < n → get_or os i 0 < a) → count_i (λ i o. ltb o a) n k os ≡ n
unfolding count_i
all_count a zero k os l h = refl
all_count a (suc n) k [] l h = absurd (not-suc-le-zero l)
all_count a (suc n) k (o ∷ os) l h =
    let r = all_count a n (k + 1) os (le_of_suc-le-suc l) (λ i z. h (suc i) (omega arith)) in
    rw (lt-ltb o a (h 0 (omega arith))) (omega arith)

-- n different parties have homes, so that so many cells do not say nowhere
pub room_for : (n : ℕ) (hs ps : List ℕ) → length hs ≡ 1280
    → ((i : ℕ) → i < n → (get_or ps i 0 < 1280) × (eqb nowhere (get_or hs (get_or ps i 0) 0) ≡ false))
    → ((i j : ℕ) → i < n → j < n → get_or ps i 0 ≡ get_or ps j 0 → i ≡ j)
    → n + many (eqb nowhere) hs ≤ 1280
room_for zero hs ps l h o = omega (arith, many_most (eqb nowhere) hs)
room_for (suc n) hs ps l h o =
    let p = get_or ps n 0 in
    let here = h n (omega arith) in
    let put = many_put (eqb nowhere) hs p nowhere (omega (arith, here.0)) here.1 refl in
    let go = room_for n (set hs p nowhere) ps (simp length-set l)
    (λ i z. let y = h i (omega arith) in (
      y.0,
      rw (get_or-set_other hs p (get_or ps i 0) nowhere 0
          (λ e. let w = o i n (omega arith) (omega arith) e in omega arith)) y.1,
    ))
    (λ i j x y. o i j (omega arith) (omega arith)) in
    omega (arith, put, go)

module _ (ext : ℕ → Bool) (time : ℕ → ℕ) (A : Args (Numbers ext time)) (cost : List ℕ) (f : Fixed) (b : Setting) (bf : Buffer (Numbers ext time))
    (g : Group (Numbers ext time)) (skipped : List ℕ) (owner taken home member ints exts mark joined : List ℕ) (n : ℕ)
    (sizes : Sizes f cost owner taken home member ints exts mark joined)
    (v : Begins ext time A f b bf g skipped owner home member ints exts mark n) where
  abbrev W : World
  W = Numbers ext time

  abbrev m : Columns
  m = columns owner taken home member ints exts mark joined (tally 0 n 0 0)

  -- a member has a home
  homed : (i : ℕ) → i < n → eqb nowhere (get_or home (get_or member i 0) 0) ≡ false
  homed i l =
      ne_eqb nowhere (get_or home (get_or member i 0) 0) (λ e.
      let out : is_in W (get_or member i 0) (take n member) ≡ false = v.housed (get_or member i 0) (v.parties i l)
      ∙ rw (eq-eqb (get_or home (get_or member i 0) 0) nowhere (sym e)) in
      eqb-false (get_or member i 0) (get_or member i 0) (not_in ext time (get_or member i 0) member n i out l (omega (arith, v.most, sizes.member_long)))
      refl)

  good_store : GoodStore f m.store
  good_store = record {
    owner_long = sizes.owner_long;
    taken_long = sizes.taken_long;
    home_long = sizes.home_long;
    member_long = sizes.member_long;
    ints_long = sizes.ints_long;
    exts_long = sizes.exts_long;
    rows_fit = sizes.rows_fit;
    places_fit = sizes.places_fit;
    height_fit = sizes.height_fit;
    small = v.small;
    takes = omega (arith, count_most live f.rows 0 owner);
    enters = room_for n home member sizes.home_long (λ i l. (v.parties i l, homed i l)) v.once;
  }

  -- and its home is a slot
  in_slot : (i : ℕ) → i < n → get_or home (get_or member i 0) 0 < 64
  in_slot i l =
      by_bool (ltb (get_or home (get_or member i 0) 0) b.slots)
      (λ t. let z = ltb-true (get_or home (get_or member i 0) 0) b.slots t in omega (arith, v.few))
      (λ t. let e = v.lodged (get_or member i 0) (v.parties i l) (ltb-false (get_or home (get_or member i 0) 0) b.slots t) in
      absurd (eqb-false nowhere (get_or home (get_or member i 0) 0) (homed i l) (sym e)))

  good : Good f cost m
  good = record {
    store = good_store;
    marks = record {
      mark_long = sizes.mark_long;
      joined_long = sizes.joined_long;
      joins = omega (arith, many_most (eqb 1) mark, sizes.mark_long);
    };
    cost_long = sizes.cost_long;
    parties = v.parties;
    homes = in_slot;
  }

  fits : Fits ext time A f b 0 m
  unfolding keep
  fits = record {
    inset = λ p l. rw (append-nil, ← v.skipped) (v.inset p l);
    says = v.says;
    total = refl;
    gone = λ t l. absurd (not-suc-le-zero l);
    housed = v.housed;
    parties = v.parties;
    once = v.once;
    filled = λ i l. rw append-nil (v.filled i l);
    new = v.as_many;
    loose = λ p l e. refl;
    numbered = v.numbered;
    few = v.few;
  }

  state : entered W A bf g skipped ≡ state_of ext time f b 0 m
  unfolding entered state_of keep
  state =
      let lists : g.lists ≡ tab_i n 0 (group_row ext time b.entry_lists member owner []) =
      v.lists ∙ tab_cong n 0 _ _ (λ i x y. ap (row ext time (get_or member i 0)) (sym (append-nil (get_or b.entry_lists i [])))) in
      rw (v.order, lists, v.slots, v.last, v.skipped, append-nil)

  pub begins : Begun ext time A f b bf g skipped cost m
  unfolding left_c
  begins = record {
    means = record { ops = 0; good = good; fits = fits; state = state };
    low = record { long = v.numbers_long; low = v.low };
    fresh = record {
      ints0 = λ j l. by_bool (ltb j 64)
          (λ t. v.ints0 j l (ltb-true j 64 t))
          (λ t. get_d_out ints j 0 (let z = ltb-false j 64 t in omega (arith, sizes.ints_long)));
      exts0 = λ j l. by_bool (ltb j 64)
          (λ t. v.exts0 j l (ltb-true j 64 t))
          (λ t. get_d_out exts j 0 (let z = ltb-false j 64 t in omega (arith, sizes.exts_long)));
      homes = v.lodged;
    };
    held = all_count f.places f.rows 0 owner (omega (arith, sizes.owner_long, sizes.rows_fit)) v.held;
  }
