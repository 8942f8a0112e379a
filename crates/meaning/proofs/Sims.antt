-- Each routine on columns does what the rule of its name does to what the columns mean: from `check_sim`, `pass_sim` and `move_sim` up to
-- `visit_sim`, by induction along the walk. Assumes nothing.
use mathlib.Core.Path.{◌≡◌, refl, sym, ap, ap₂, ◌∙◌, subst}
use mathlib.Core.Logic.{◌⊎◌, inl, inr, ⊎_elim}
use mathlib.Core.List.{List, [], ◌∷◌}
use mathlib.Core.Bool.{Bool, true, false, cond, not, ◌&&◌}
use Prim.Native.Nat.{ℕ, zero, suc, ◌+◌, ◌-◌, ◌<◌, ◌≤◌}
use native.Mathlib.Omega.{arith}
use lib.Dec.{eqb, leb}
use lib.ListN.{length, get_or, take, drop}
use lib.Seq.{drop-cons}
use native.Mathlib.Numerals.{add-one}
use borrow.Author.Tests.{ne_eqb, eqb-true, eqb-false, eq-eqb, le-leb, lt-leb, leb-true, leb-false}
use Rattle.rules.specs.World.{World, Args, keep}
use Rattle.rules.specs.Queues.{has, count_of, count, accounts_of}
use Rattle.rules.specs.Passes.{State, Walked, checked, pass_over, move, try, meet, moves, marked, is_full, seek, reach, own, visit}
use Rattle.moves.specs.declared.Fixed.{Fixed}
use Rattle.columns.specs.Lists.{tab_i}
use Rattle.moves.specs.Moves.{move_store, wanted_of, nowhere, take_c}
use Rattle.moves.proofs.Counts.{some_pass}
use Rattle.meaning.specs.Meaning.{Numbers, Columns, Setting, state_of, check_c, pass_c, move_c, Agrees, Fits, slot_at}
use Rattle.meaning.specs.Walks.{Good, skip_c, free_c, moves_at, moves_c, held_c, full_c, WalkC, try_c, meet_c, seek_c, reach_c, own_c, visit_c}
use Rattle.meaning.specs.Means.{Means, Walks, places}
use Rattle.numbers.proofs.Bytes.{by_bool}
use Rattle.meaning.proofs.Tabs.{has_col, count_tab, accounts_tab}
use Rattle.meaning.proofs.Check.{check_abs}
use Rattle.meaning.proofs.Pass.{pass_abs}
use Rattle.meaning.proofs.Keeps.{check_fits, pass_fits, costs}
use Rattle.meaning.proofs.Move.{move_out, move_stop, move_takes, out_ops, stop_ops, room_is}
use Rattle.meaning.proofs.MoveFits.{fits_had, fits_empty, fits_new}
use Rattle.meaning.proofs.Kept.{check_keeps, pass_keeps, move_keeps, try_home, try_party, try_more}

le_or_lt : (x y : ℕ) → (x ≤ y) ⊎ (y < x)
le_or_lt x y = by_bool (leb x y) (λ e. inl (leb-true x y e)) (λ e. inr (leb-false x y e))

-- a list is empty or not
split : {C : Type 0} (xs : List ℕ) → (xs ≡ [] → C) → ((r : ℕ) (rs : List ℕ) → xs ≡ r ∷ rs → C) → C
split [] e c = e refl
split (r ∷ rs) e c = c r rs refl

module _ (ext : ℕ → Bool) (time : ℕ → ℕ) (A : Args (Numbers ext time)) (class cost : List ℕ) (f : Fixed) (b : Setting)
    (a : Agrees ext time A class cost f) where
  abbrev W : World
  W = Numbers ext time

  abbrev Ms : Columns → State W → Type 0
  Ms m σ = Means ext time A cost f b m σ

  -- a member marked 1 has a place left on the list of those that joined
  join_room : (m : Columns) → Good f cost m → (p : ℕ) → p < 1280 → eqb (get_or m.mark p 0) 1 ≡ true → m.store.tally.joined < length m.joined
  join_room m g p l e =
      omega (
        arith,
        g.marks.joins,
        g.marks.joined_long,
        some_pass (eqb 1) m.mark p (omega (arith, g.marks.mark_long))
            (eq-eqb 1 (get_or m.mark p 0) (sym (eqb-true (get_or m.mark p 0) 1 e))),
      )

  module _ {m : Columns} {σ : State W} (v : Ms m σ) (p : ℕ) (l : p < 1280) where
    pub check_sim : Ms (check_c cost p m) (checked W A p σ)
    check_sim = record {
      ops = v.ops + cond (eqb (get_or m.mark p 0) 2) 1 (get_or cost p 0);
      good = check_keeps v.good class p l;
      fits = check_fits ext time A class cost f b v.ops m a v.fits p l (join_room m v.good p l) v.good.marks.mark_long;
      state = ap (λ (x : State W). checked W A p x) v.state ∙ check_abs ext time A class cost f b v.ops m a v.fits p l
          (join_room m v.good p l);
    }

    pub pass_sim : Ms (pass_c class f p m) (pass_over W A p σ)
    pass_sim = record {
      ops = v.ops;
      good = pass_keeps v.good class p l;
      fits = pass_fits ext time A class cost f b v.ops m a v.fits p l v.good.store.places_fit;
      state = ap (λ (x : State W). pass_over W A p x) v.state ∙ pass_abs ext time A class cost f b v.ops m a v.fits p l
          v.good.store.places_fit;
    }

    pub marked_is : marked W A σ.skipped p ≡ skip_c p m
    unfolding marked state_of
    marked_is =
        rw (v.state, v.fits.inset p l)
        (by_bool (eqb (get_or m.mark p 0) 2)
        (λ e. rw (e, ne_eqb (get_or m.mark p 0) 1 (λ z. let y = eqb-true (get_or m.mark p 0) 2 e in omega arith)))
        (λ e. rw (e, v.fits.says p l e) (by_bool (eqb (get_or m.mark p 0) 1) (λ d. rw d) (λ d. rw d))))

    pub has_is : has W p σ.lists ≡ not (free_c p m)
    unfolding state_of
    has_is = rw v.state (has_col ext time p m.store.member _ m.store.tally.accounts 0
        (omega (arith, v.good.store.enters, v.good.store.member_long)) ∙ v.fits.housed p l)

  module _ (j : ℕ) (jl : j < b.slots) where
    abbrev n : ℕ
    n = get_or b.number j 0

    small : (m : Columns) {σ : State W} → Ms m σ → j < 64
    small m v = omega (arith, v.fits.few)

    pub full_is : {m : Columns} {σ : State W} → Ms m σ → is_full W A n σ ≡ full_c f.height (held_c j m)
    unfolding is_full full_c
    full_is {m} {σ} v =
        rw (v.state, room_is ext time A class cost f b v.ops m a v.fits 0 (omega arith) v.good.store.places_fit j jl)
        (by_bool (leb f.height (held_c j m))
        (λ e. rw e (eq-eqb (f.height - held_c j m) 0 (let z = leb-true f.height (held_c j m) e in omega arith)))
        (λ e. rw e (ne_eqb (f.height - held_c j m) 0 (λ y. let z = leb-false f.height (held_c j m) e in omega arith))))

    pub held_is : {m : Columns} {σ : State W} → Ms m σ → count_of W n σ.slots ≡ held_c j m
    unfolding state_of count
    held_is {m} {σ} v =
        rw v.state (count_tab ext time j (slot_at ext time b.number _ m.store.home m.store.ints m.store.exts) b.slots 0
        (omega arith) (omega arith)
        (λ g x y e. v.fits.numbered j g jl (omega arith) e))

    module _ (p : ℕ) (l : p < 1280) where
      move_means : {m : Columns} (o : ℕ) → Good f cost m → Fits ext time A f b o m → Ms (move_c class f p j m)
          (move W A n p (state_of ext time f b o m))
      unfolding move_store
      move_means {m} o g v =
          let js : j < 64 = omega (arith, v.few) in
          let gl : m.store.tally.accounts ≤ length m.store.member = omega (arith, g.store.enters, g.store.member_long) in
          let tl : m.store.tally.taken ≤ length m.store.taken = omega (arith, g.store.takes, g.store.rows_fit, g.store.taken_long) in
          let il : j < length m.store.ints = omega (arith, g.store.ints_long) in
          let el : j < length m.store.exts = omega (arith, g.store.exts_long) in
          let pl : p < length m.store.home = omega (arith, g.store.home_long) in
          let gs : get_or m.store.home p 0 ≡ nowhere → m.store.tally.accounts < length m.store.member =
          λ w. omega (arith, g.store.enters, g.store.member_long, some_pass (eqb nowhere) m.store.home p pl (eq-eqb nowhere _ (sym w))) in
          let P = g.store.places_fit in
          ⊎_elim
          (λ (h : f.places ≤ p). record {
            ops = (move W A n p (state_of ext time f b o m)).ops;
            good = move_keeps g class p l j js;
            fits = rw (out_ops ext time A class cost f b o m a v p l P j jl gl h, le-leb _ _ h) v;
            state = move_out ext time A class cost f b o m a v p l P j jl gl h;
          })
          (λ (h : p < f.places). by_bool (eqb (wanted_of f p j m.store) 0)
          (λ z. let k = eqb-true (wanted_of f p j m.store) 0 z in record {
            ops = (move W A n p (state_of ext time f b o m)).ops;
            good = move_keeps g class p l j js;
            fits = rw (stop_ops ext time A class cost f b o m a v p l P j jl gl h k, lt-leb _ _ h, z)
                (costs ext time A class cost f b o m a v p l 1 _ (omega (arith, v.total)));
            state = move_stop ext time A class cost f b o m a v p l P j jl gl h k;
          })
          (λ z. let k = eqb-false (wanted_of f p j m.store) 0 z in record {
            ops = (move W A n p (state_of ext time f b o m)).ops;
            good = move_keeps g class p l j js;
            fits = by_bool (eqb (get_or m.store.home p 0) nowhere)
                (λ e. let w = eqb-true (get_or m.store.home p 0) nowhere e in
                split (take_c p class (wanted_of f p j m.store) f.rows 0 m.store.owner).rows
                (λ d. fits_empty ext time A class cost f b o m a v p l P j jl gl h k tl il el w d)
                (λ r rs d. fits_new ext time A class cost f b o m a v p l P j jl gl h k tl il el w r rs d (gs w) pl js))
                (λ e. fits_had ext time A class cost f b o m a v p l P j jl gl h k tl il el (eqb-false (get_or m.store.home p 0) nowhere e));
            state = move_takes ext time A class cost f b o m a v p l P j jl gl h k tl il el gs pl;
          }))
          (le_or_lt f.places p)

      pub move_sim : {m : Columns} {σ : State W} → Ms m σ → Ms (move_c class f p j m) (move W A n p σ)
      move_sim v = rw v.state (move_means v.ops v.good v.fits)

      pub try_sim : {m : Columns} {σ : State W} → Ms m σ → Ms (try_c class cost f j p m) (try W A n p σ)
      unfolding try_c try
      try_sim {m} {σ} v =
          rw (marked_is v p l)
          (by_bool (skip_c p m)
          (λ e. rw e (pass_sim (check_sim v p l) p l))
          (λ e. rw e (move_sim (check_sim v p l))))

      pub meet_sim : {m : Columns} {σ : State W} → Ms m σ → Ms (meet_c class cost f j p m) (meet W A n p σ)
      unfolding meet_c meet
      meet_sim {m} {σ} v =
          rw (has_is v p l)
          (by_bool (free_c p m)
          (λ e. rw e (try_sim v))
          (λ e. rw e (pass_sim v p l)))

      pub moves_is : {m : Columns} {σ : State W} → Ms m σ → moves W A p σ ≡ moves_c p m
      unfolding moves moves_at
      moves_is {m} {σ} v = rw (has_is v p l, marked_is v p l) (by_bool (free_c p m) (λ e. rw e) (λ e. rw e))

    -- ---- the walks: r places are left, from i on

    abbrev Ws : WalkC → Walked W → Type 0
    Ws x y = Walks ext time A cost f b x y

    rest_is : (r i : ℕ) → r ≡ f.places - i → tab_i r i (λ p. p) ≡ places ext time A cost f b i
    rest_is r i e = ap (λ x. tab_i x i (λ p. p)) e

    both : {x y : Bool} → y ≡ x → {p q : WalkC} {c d : Walked W} → (x ≡ true → Ws p c) → (x ≡ false → Ws q d) → Ws (cond x p q) (cond y c d)
    both {x} {y} e {p} {q} {c} {d} g h = rw e (by_bool x (λ z. rw z (g z)) (λ z. rw z (h z)))

    pub seek_sim : (r i : ℕ) → r ≡ f.places - i → {m : Columns} {σ : State W} → Ms m σ
        → Ws (seek_c class cost f j r i m) (seek W A n (tab_i r i (λ p. p)) σ)
    unfolding seek_c seek tab_i
    seek_sim zero i e v = record { rest = rest_is zero i e; now = v }
    seek_sim (suc r) i e {m} {σ} v =
        let t = meet_sim i (omega (arith, v.good.store.places_fit)) v in
        both (ap (λ x. eqb x 0) (held_is t)) (λ z. seek_sim r (i + 1) (omega arith) t)
        (λ z. record { rest = rest_is r (i + 1) (omega arith); now = t })

    and_is : {x x' y y' : Bool} → x ≡ x' → y ≡ y' → x && y ≡ cond x' y' false
    and_is {x} {x'} {y} {y'} d e = rw (d, e) (by_bool x' (λ z. rw z) (λ z. rw z))

    pub reach_sim : (r i : ℕ) → r ≡ f.places - i → {m : Columns} {σ : State W} → Ms m σ
        → Ws (reach_c class cost f j r i m) (reach W A n (tab_i r i (λ p. p)) σ)
    unfolding reach_c reach tab_i
    reach_sim zero i e v = record { rest = rest_is zero i e; now = v }
    reach_sim (suc r) i e {m} {σ} v =
        let l : i < 1280 = omega (arith, v.good.store.places_fit) in
        let t = meet_sim i l v in
        both (and_is (moves_is i l v) (full_is t)) (λ z. record { rest = rest_is r (i + 1) (omega arith); now = t })
        (λ z. reach_sim r (i + 1) (omega arith) t)

    -- ---- the slot's own accounts

    -- the parties of the slot among the r group accounts from g on
    abbrev mine : List ℕ → List ℕ → ℕ → ℕ → List ℕ
    mine hs ps r g = keep (λ p. eqb (get_or hs p 0) j) (take r (drop g ps))

    mine_step : (hs ps : List ℕ) (r g : ℕ) → g < length ps → mine hs ps (suc r) g ≡ cond (eqb (get_or hs (get_or ps g 0) 0) j)
        (get_or ps g 0 ∷ mine hs ps r (g + 1)) (mine hs ps r (g + 1))
    unfolding keep
    mine_step hs ps r g h = rw (drop-cons ps g 0 h, add-one g)

    both_o : {x y : Bool} → y ≡ x → {p q : Columns} {c d : State W} → (x ≡ true → Ms p c) → (x ≡ false → Ms q d) → Ms (cond x p q) (cond y c d)
    both_o {x} {y} e {p} {q} {c} {d} g h = rw e (by_bool x (λ z. rw z (g z)) (λ z. rw z (h z)))

    own_hit : (r g : ℕ) (m : Columns) → eqb (get_or m.store.home (get_or m.store.member g 0) 0) j ≡ true
        → own_c class cost f j (suc r) g m ≡ cond (cond (not (skip_c (get_or m.store.member g 0) m))
        (full_c f.height (held_c j (try_c class cost f j (get_or m.store.member g 0) m))) false)
        (try_c class cost f j (get_or m.store.member g 0) m) (own_c class cost f j r (g + 1) (try_c class cost f j (get_or m.store.member g 0) m))
    unfolding own_c
    own_hit r g m e = rw e

    own_miss : (r g : ℕ) (m : Columns) → eqb (get_or m.store.home (get_or m.store.member g 0) 0) j ≡ false → own_c class cost f j (suc r) g m
        ≡ own_c class cost f j r (g + 1) m
    unfolding own_c
    own_miss r g m e = rw e

    own_none : (g : ℕ) {m : Columns} {σ : State W} → Ms m σ → Ms (own_c class cost f j 0 g m) (own W A n [] σ)
    unfolding own_c own
    own_none g v = v

    pub own_sim : (r g : ℕ) {m : Columns} {σ : State W} → Ms m σ → g + r ≤ m.store.tally.accounts
        → Ms (own_c class cost f j r g m) (own W A n (mine m.store.home m.store.member r g) σ)
    unfolding own keep
    own_sim zero g v h = own_none g v
    own_sim (suc r) g {m} {σ} v h =
        let p = get_or m.store.member g 0 in
        let l : p < 1280 = v.good.parties g (omega arith) in
        let long : g < length m.store.member = omega (arith, v.good.store.enters, v.good.store.member_long) in
        let step = mine_step m.store.home m.store.member r g long in
        by_bool (eqb (get_or m.store.home p 0) j)
        (λ e.
        let here : free_c p m ≡ false = ne_eqb (get_or m.store.home p 0) nowhere (λ z. omega
        (arith, v.fits.few, eqb-true (get_or m.store.home p 0) j e)) in
        let t = try_sim p l v in
        let go = own_sim r (g + 1) t (omega (arith, try_more class cost f j p m)) in
        let same : mine (try_c class cost f j p m).store.home (try_c class cost f j p m).store.member r (g + 1)
        ≡ mine m.store.home m.store.member r (g + 1) =
        ap₂ (λ (hs ps : List ℕ). mine hs ps r (g + 1)) (try_home class cost f j p m here) (try_party class cost f j p m here) in
        let st : mine m.store.home m.store.member (suc r) g ≡ p ∷ mine m.store.home m.store.member r (g + 1) = step ∙ rw e in
        subst (λ (x : Columns). Ms x (own W A n (mine m.store.home m.store.member (suc r) g) σ)) (sym (own_hit r g m e))
        (subst (λ (x : List ℕ). Ms (cond (cond (not (skip_c p m)) (full_c f.height (held_c j (try_c class cost f j p m))) false)
        (try_c class cost f j p m) (own_c class cost f j r (g + 1) (try_c class cost f j p m))) (own W A n x σ)) (sym st)
        (both_o (and_is (ap not (marked_is v p l)) (full_is t)) (λ z. t)
        (λ z. subst (λ (x : List ℕ). Ms (own_c class cost f j r (g + 1) (try_c class cost f j p m)) (own W A n x (try W A n p σ))) same go))))
        (λ e.
        let st : mine m.store.home m.store.member (suc r) g ≡ mine m.store.home m.store.member r (g + 1) = step ∙ rw e in
        subst (λ (x : Columns). Ms x (own W A n (mine m.store.home m.store.member (suc r) g) σ)) (sym (own_miss r g m e))
        (subst (λ (x : List ℕ). Ms (own_c class cost f j r (g + 1) m) (own W A n x σ)) (sym st) (own_sim r (g + 1) v (omega arith))))

    -- ---- a visit

    accounts_is : {m : Columns} {σ : State W} → Ms m σ → accounts_of W n σ.slots ≡ mine m.store.home m.store.member
        m.store.tally.accounts 0
    unfolding state_of
    accounts_is {m} {σ} v =
        rw v.state (accounts_tab ext time j (slot_at ext time b.number (take m.store.tally.accounts m.store.member) m.store.home
        m.store.ints m.store.exts) b.slots 0 (omega arith) (omega arith)
        (λ g x y e. v.fits.numbered j g jl (omega arith) e))

    visit_by : (m : Columns) (σ : State W) (i : ℕ) → {o : State W} → Ms (own_c class cost f j m.store.tally.accounts 0 m) o
        → own W A n (accounts_of W n σ.slots) σ ≡ o → Ws (visit_c class cost f j i m) (visit W A n (places ext time A cost f b i) σ)
    unfolding visit_c visit
    visit_by m σ i {o} w e = rw e (both (full_is w) (λ z. record { rest = refl; now = w }) (λ z. reach_sim (f.places - i) i refl w))

    pub visit_sim : {m : Columns} {σ : State W} (i : ℕ) → Ms m σ → Ws (visit_c class cost f j i m) (visit W A n (places ext time A cost f b i) σ)
    visit_sim {m} {σ} i v =
        visit_by m σ i (own_sim m.store.tally.accounts 0 v (omega arith)) (ap (λ (x : List ℕ). own W A n x σ) (accounts_is v))
