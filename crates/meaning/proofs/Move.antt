-- A move in the columns is a move in what they mean: no queue, `move_out`; no room, `move_stop`; else `move_takes`, part by part of the
-- state. With each the operations that it costs. Assumes nothing.
use mathlib.Core.Path.{◌≡◌, refl, sym, ap, ap₂, ◌∙◌}
use mathlib.Core.Logic.{◌⊎◌, inl, inr}
use mathlib.Core.List.{List, [], ◌∷◌, ◌++◌, append-nil, append_assoc}
use mathlib.Core.Bool.{Bool, true, false, cond, not, ◌&&◌}
use Prim.Native.Nat.{ℕ, zero, suc, ◌+◌, ◌-◌, ◌<◌, ◌≤◌, min}
use native.Mathlib.Nat.{add-zero, sub-zero}
use native.Mathlib.Numerals.{add-one}
use native.Mathlib.Omega.{arith}
use lib.Dec.{eqb, ltb}
use lib.ListN.{length, get_or, set, take}
use lib.Seq.{get_or-set_same, get_or-set_other, take-suc-set}
use borrow.Author.Tests.{ne_eqb, eqb-true, eqb-false, eq-eqb, le-leb, lt-leb, ltb-true, ltb-false}
use Rattle.rules.specs.World.{World, Args, Row, Slot, keep, is_nil}
use Rattle.rules.specs.Queues.{has, at, edit, give, grow, grown, count, internals, externals}
use Rattle.rules.specs.Passes.{State, move, moved, collect, room, Taken, move_ops}
use Rattle.moves.specs.declared.Fixed.{Fixed}
use Rattle.columns.specs.Lists.{tab_i}
use Rattle.meaning.specs.Meaning.{owned, Numbers, Columns, Setting, state_of, move_c, Agrees, Fits, given, order_row, group_row, slot_at, row, homed}
use Rattle.moves.specs.Moves.{Store, move_store, took_store, enter_homes, wanted_of, wanted_c, queued_c, held_at, take_c, Taking, nowhere, store, tally, sum}
use Rattle.numbers.proofs.Bytes.{by_bool}
use Rattle.meaning.proofs.Tabs.{edit_tab, has_tab, at_tab, out_tab, at_none, give_new, has_col, give_col, grow_tab, count_tab}
use Rattle.meaning.proofs.Lists.{keep_append, keep_all, keep_none, laid_take, homed_set, get_d_out, not_in}
use Rattle.meaning.proofs.Pass.{keep_cong}
use Rattle.columns.specs.Laid.{laid_at}
use Rattle.columns.proofs.Tabs.{tab_cong, tab_snoc, length_pick}
use Rattle.meaning.proofs.Takes.{both, take_own, take_other, take_ints, take_kept, take_marks, take_pops}
use Rattle.meaning.proofs.Idle.{state_eq, idle_move, edit_out}

pub lt_or_le : (x y : ℕ) → (x < y) ⊎ (y ≤ x)
lt_or_le x y = by_bool (ltb x y) (λ e. inl (ltb-true x y e)) (λ e. inr (ltb-false x y e))

module _ (ext : ℕ → Bool) (time : ℕ → ℕ) (A : Args (Numbers ext time)) (class cost : List ℕ) (f : Fixed) (b : Setting) (o : ℕ) (m : Columns)
    (a : Agrees ext time A class cost f) (v : Fits ext time A f b o m) (p : ℕ) (l : p < 1280) (places : f.places ≤ 256)
    (j : ℕ) (jl : j < b.slots) where
  abbrev W : World
  W = Numbers ext time

  abbrev s : Store
  s = m.store

  abbrev os : List ℕ
  os = s.owner

  abbrev σ : State W
  σ = state_of ext time f b o m

  abbrev n : ℕ
  n = get_or b.number j 0

  abbrev R : ℕ
  R = f.height - held_at s.ints s.exts j

  abbrev q : List ℕ
  q = owned p f.rows 0 os

  abbrev K : ℕ
  K = wanted_of f p j s

  abbrev T : Taking
  T = take_c p class K f.rows 0 os

  abbrev ts : List ℕ
  ts = take s.tally.taken s.taken

  pub room_is : room W A n σ ≡ R
  unfolding room state_of count
  room_is =
      rw (
        a.height,
        count_tab ext time j (slot_at ext time b.number (take s.tally.accounts s.member) s.home s.ints s.exts) b.slots 0
            (omega arith) (omega arith)
            (λ g x y e. v.numbered j g jl (omega arith) e),
      )

  k_is : min (length q) R ≡ K
  unfolding wanted_c queued_c
  k_is = rw (length_pick (λ (i : ℕ). i) p f.rows 0 os)

  moved_is : moved W A (room W A n σ) q ≡ record { got = T.rows; left = owned p f.rows 0 T.owners }
  unfolding moved
  moved_is = rw (room_is, k_is) (take_own ext time A class p l K f.rows 0 os (λ i x y. a.drops i (omega arith)))

  -- the order, where the account has a queue
  order_is : edit W p (λ z. (moved W A (room W A n σ) z).left) (tab_i f.places 0 (order_row ext time f.rows os))
      ≡ tab_i f.places 0 (order_row ext time f.rows T.owners)
  order_is =
      edit_tab ext time p (λ i. owned i f.rows 0 os) (λ z. (moved W A (room W A n σ) z).left) (λ i. owned i f.rows 0 T.owners) f.places 0
      (λ i x y. by_bool (eqb p i)
      (λ e. let z = eqb-true p i e in rw (e, ← z) (ap (λ (t : Taken W). t.left) moved_is))
      (λ e. rw e (sym (take_other ext time A class p l i K f.rows 0 os (omega arith) (λ z. eqb-false p i e (sym z))))))

  pub marked_row : (t : ℕ) → t < length T.rows → get_or T.owners (get_or T.rows t 0) 0 ≡ 2048 + p
  marked_row t h = rw (sub-zero (get_or T.rows t 0)) at (take_marks ext time A class p l K f.rows 0 t os h).owner

  -- what a member has been given, afterwards
  kept_given : (r : ℕ) → given ext time T.owners ts r ≡ given ext time os ts r
  kept_given r =
      keep_cong _ _ 0 s.taken s.tally.taken
      (λ t h. rw (take_kept ext time A class p l K f.rows 0 (get_or s.taken t 0) os (λ e. omega (arith, (v.gone t h).1))))

  pub given_after : (r : ℕ) → given ext time T.owners (ts ++ T.rows) r ≡ given ext time os ts r ++ cond (eqb p r) T.rows []
  given_after r =
      rw (keep_append (λ i. eqb (get_or T.owners i 0) (2048 + r)) ts T.rows, kept_given r)
      (by_bool (eqb p r)
      (λ e. rw e (ap (λ (z : List ℕ). given ext time os ts r ++ z) (keep_all _ T.rows
      (λ t h. eq-eqb _ _ (marked_row t h ∙ ap (λ z. 2048 + z) (eqb-true p r e))))))
      (λ e. rw e (ap (λ (z : List ℕ). given ext time os ts r ++ z) (keep_none _ T.rows
      (λ t h. ne_eqb _ _ (λ z. eqb-false p r e (let y = sym (marked_row t h) ∙ z in omega arith)))))))

  -- ---- the lists

  abbrev G : ℕ
  G = s.tally.accounts

  abbrev lists : List (Row W)
  lists = tab_i G 0 (group_row ext time b.entry_lists s.member os ts)

  abbrev old_l : ℕ → List ℕ
  old_l g = get_or b.entry_lists g [] ++ given ext time os ts (get_or s.member g 0)

  abbrev new_l : ℕ → List ℕ
  new_l g = get_or b.entry_lists g [] ++ given ext time T.owners (ts ++ T.rows) (get_or s.member g 0)

  pub new_l_is : (g : ℕ) → new_l g ≡ old_l g ++ cond (eqb p (get_or s.member g 0)) T.rows []
  new_l_is g = rw (given_after (get_or s.member g 0), append_assoc)

  module _ (gl : G ≤ length s.member) where
    pub has_is : has W p lists ≡ not (eqb (get_or s.home p 0) nowhere)
    has_is = has_col ext time p s.member old_l G 0 (omega arith) ∙ v.housed p l

    -- nothing was got: the lists stay
    lists_none : T.rows ≡ [] → lists ≡ tab_i G 0 (λ g. row ext time (get_or s.member g 0) (new_l g))
    lists_none e =
        tab_cong G 0 _ _ (λ g x y. ap (row ext time (get_or s.member g 0))
        (sym (new_l_is g ∙ rw e (by_bool (eqb p (get_or s.member g 0)) (λ t. rw (t, append-nil)) (λ t. rw (t, append-nil))))))

    give_is : (r : ℕ) (rs : List ℕ) → T.rows ≡ r ∷ rs → has W p lists ≡ true
        → give W p T.rows lists ≡ tab_i G 0 (λ g. row ext time (get_or s.member g 0) (new_l g))
    give_is r rs e h =
        ap (λ (z : List ℕ). give W p z lists) e ∙ (give_col ext time p s.member r rs old_l new_l G 0
        (λ g k x y. v.once g k (omega arith) (omega arith))
        (λ g x y. new_l_is g ∙ by_bool (eqb p (get_or s.member g 0)) (λ t. rw (t, e)) (λ t. rw (t, append-nil))) h)

    -- the account is new: its list is the last
    abbrev ps' : List ℕ
    ps' = set s.member G p

    give_last : (r : ℕ) (rs : List ℕ) → T.rows ≡ r ∷ rs → get_or s.home p 0 ≡ nowhere → G < length s.member
        → give W p T.rows lists ≡ tab_i (G + 1) 0 (group_row ext time b.entry_lists ps' T.owners (ts ++ T.rows))
    give_last r rs e h gs =
        let no : has W p lists ≡ false = has_is ∙ rw (eq-eqb _ _ h) in
        let mine : get_or ps' G 0 ≡ p = get_or-set_same s.member G p 0 gs in
        let end : group_row ext time b.entry_lists ps' T.owners (ts ++ T.rows) G ≡ row ext time p (r ∷ rs) =
        rw (mine, get_d_out b.entry_lists G [] v.new, given_after p, v.loose p l h, eq-eqb p p refl, e) in
        let front : lists ≡ tab_i G 0 (group_row ext time b.entry_lists ps' T.owners (ts ++ T.rows)) =
        tab_cong G 0 _ _ (λ g x y.
        let k : get_or ps' g 0 ≡ get_or s.member g 0 = get_or-set_other s.member G g p 0 (λ z. omega arith) in
        let d : eqb p (get_or s.member g 0) ≡ false = not_in ext time p s.member G g (v.housed p l ∙ rw (eq-eqb _ _ h)) (omega arith) gl in
        rw (k, given_after (get_or s.member g 0), d, append-nil)) in
        ap (λ (z : List ℕ). give W p z lists) e ∙ give_new ext time p r rs lists no ∙ ap₂ ◌++◌ front (ap (λ (z : Row W). z ∷ []) (sym end))
        ∙ sym (tab_snoc G 0 G (group_row ext time b.entry_lists ps' T.owners (ts ++ T.rows)) (omega arith))
        ∙ ap (λ z. tab_i z 0 (group_row ext time b.entry_lists ps' T.owners (ts ++ T.rows))) (sym (add-one G))

    -- ---- the slots: those other than j stay, j grows

    abbrev slots_of : List ℕ → List ℕ → List ℕ → List ℕ → List (Slot W)
    slots_of ps hs is es = tab_i b.slots 0 (slot_at ext time b.number ps hs is es)

    abbrev is' : List ℕ
    is' = set s.ints j (get_or s.ints j 0 + T.ints)

    abbrev es' : List ℕ
    es' = set s.exts j (get_or s.exts j 0 + (length T.rows - T.ints))

    ints_are : T.ints ≡ internals W T.rows
    ints_are = take_ints ext time A class p l K f.rows 0 os (λ i x y. a.kinds i (omega arith))

    exts_are : length T.rows - T.ints ≡ externals W T.rows
    exts_are = omega (arith, ints_are, both ext time A class T.rows)

    -- the account list of each slot is given by `acc`
    grow_is : (x : Bool) (ps hs : List ℕ) → j < length s.ints → j < length s.exts
        → ((i : ℕ) → i < b.slots → homed ext time ps hs i ≡ cond (eqb j i) (cond x (homed ext time (take G s.member) s.home i ++ (p ∷ []))
        (homed ext time (take G s.member) s.home i)) (homed ext time (take G s.member) s.home i))
        → grow W n (grown W p x T.rows) (slots_of (take G s.member) s.home s.ints s.exts) ≡ slots_of ps hs is' es'
    unfolding grown
    grow_is x ps hs il el h =
        grow_tab ext time n (grown W p x T.rows) (slot_at ext time b.number (take G s.member) s.home s.ints s.exts)
        (slot_at ext time b.number ps hs is' es') b.slots 0
        (λ i y z. by_bool (eqb j i)
        (λ e. let w = eqb-true j i e in
        rw (
          h i (omega arith),
          e,
          ← w,
          eq-eqb n n refl,
          get_or-set_same s.ints j (get_or s.ints j 0 + T.ints) 0 il,
          get_or-set_same s.exts j
              (get_or s.exts j 0 + (length T.rows - T.ints)) 0 el,
          exts_are,
          ints_are,
        ))
        (λ e. let w : j ≡ i → ⊥ = eqb-false j i e in
        rw (
          h i (omega arith),
          e,
          ne_eqb n (get_or b.number i 0) (λ u. w (v.numbered j i jl (omega arith) u)),
          get_or-set_other s.ints j i (get_or s.ints j 0 + T.ints) 0 (λ u. w (sym u)),
          get_or-set_other s.exts j i (get_or s.exts j 0 + (length T.rows - T.ints)) 0 (λ u. w (sym u)),
        )))

    -- the account lists stay
    homed_stays : (i : ℕ) → i < b.slots → homed ext time (take G s.member) s.home i
        ≡ cond (eqb j i) (cond false (homed ext time (take G s.member) s.home i ++ (p ∷ [])) (homed ext time (take G s.member) s.home i))
        (homed ext time (take G s.member) s.home i)
    homed_stays i h = by_bool (eqb j i) (λ e. rw e) (λ e. rw e)

    -- the account is put last on j's list
    homed_more : get_or s.home p 0 ≡ nowhere → G < length s.member → p < length s.home → (i : ℕ) → i < b.slots
        → homed ext time (take (G + 1) ps') (set s.home p j) i
        ≡ cond (eqb j i) (cond true (homed ext time (take G s.member) s.home i ++ (p ∷ [])) (homed ext time (take G s.member) s.home i))
        (homed ext time (take G s.member) s.home i)
    unfolding keep
    homed_more h gs pl i il =
        rw (
          add-one G,
          take-suc-set s.member G p gs,
          keep_append (λ z. eqb (get_or (set s.home p j) z 0) i) (take G s.member) (p ∷ []),
          homed_set ext time s.home p j i (take G s.member) (v.housed p l ∙ rw (eq-eqb _ _ h)),
          get_or-set_same s.home p j 0 pl,
        )
        (by_bool (eqb j i) (λ e. rw e) (λ e. rw (e, append-nil)))

    -- ---- the cases of a move

    take_none : (c i : ℕ) (xs : List ℕ) → take_c p class 0 c i xs ≡ record { owners = xs; rows = []; ints = 0; pops = 0 }
    take_none zero i xs = refl
    take_none (suc c) i xs = refl

    -- no queue
    pub move_out : f.places ≤ p → move W A n p σ ≡ state_of ext time f b (move W A n p σ).ops (move_c class f p j m)
    unfolding state_of move_store moved collect
    move_out h =
        let no : has W p σ.order ≡ false = out_tab ext time p (λ i. owned i f.rows 0 os) f.places 0 (omega arith) in
        rw (le-leb _ _ h) (idle_move ext time A n p σ (rw (at_none ext time p σ.order no)) (edit_out ext time A p _ σ.order no))

    pub out_ops : f.places ≤ p → (move W A n p σ).ops ≡ o
    unfolding state_of move move_ops
    out_ops h = rw (out_tab ext time p (λ i. owned i f.rows 0 os) f.places 0 (omega arith), add-zero)

    module _ (h : p < f.places) where
      at_is : at W p (tab_i f.places 0 (order_row ext time f.rows os)) ≡ q
      at_is = at_tab ext time p (λ i. owned i f.rows 0 os) f.places 0 (omega arith) (omega arith)

      -- no room, or an empty queue
      pub move_stop : K ≡ 0 → move W A n p σ ≡ state_of ext time f b (move W A n p σ).ops (move_c class f p j m)
      unfolding state_of move_store
      move_stop z =
          let t : T ≡ record { owners = os; rows = []; ints = 0; pops = 0 } = rw z (take_none f.rows 0 os) in
          let g : (moved W A (room W A n σ) q).got ≡ [] = rw (moved_is, t) in
          let e : edit W p (λ x. (moved W A (room W A n σ) x).left) (tab_i f.places 0 (order_row ext time f.rows os))
          ≡ tab_i f.places 0 (order_row ext time f.rows os) = order_is ∙ ap
          (λ (x : Taking). tab_i f.places 0 (order_row ext time f.rows x.owners)) t in
          rw (lt-leb _ _ h, eq-eqb _ _ z) (idle_move ext time A n p σ (ap (λ (x : List ℕ). (moved W A (room W A n σ) x).got) at_is ∙ g) e)

      here_is : has W p (tab_i f.places 0 (order_row ext time f.rows os)) ≡ true
      here_is = has_tab ext time p (λ i. owned i f.rows 0 os) f.places 0 (omega arith) (omega arith)

      pub stop_ops : K ≡ 0 → (move W A n p σ).ops ≡ o + 1
      unfolding state_of move move_ops
      stop_ops z = rw (here_is, at_is, room_is, k_is, eq-eqb _ _ z)

      module _ (k : K ≡ 0 → ⊥) (tl : s.tally.taken ≤ length s.taken) (il : j < length s.ints) (el : j < length s.exts) where
        abbrev laid : List ℕ
        laid = laid_at s.tally.taken T.rows s.taken

        abbrev spent : ℕ
        spent = sum (sum s.tally.ops 1) (1 + T.pops)

        abbrev after : List ℕ → List ℕ → ℕ → ℕ → Store
        after hs ps g o' = store T.owners laid hs ps is' es' (tally s.tally.joined g (s.tally.taken + length T.rows) o')

        got_is : (moved W A (room W A n σ) (at W p σ.order)).got ≡ T.rows
        unfolding state_of
        got_is = ap (λ (x : List ℕ). (moved W A (room W A n σ) x).got) at_is ∙ ap (λ (x : Taken W). x.got) moved_is

        pub taken_is : ts ++ T.rows ≡ take (s.tally.taken + length T.rows) laid
        taken_is = sym (laid_take s.tally.taken T.rows s.taken tl)

        -- the state after it, of the lists and the slots after it
        made : (x : Bool) (hs ps : List ℕ) (g o' : ℕ) → not (has W p lists) && not (is_nil T.rows) ≡ x
            → give W p T.rows lists ≡ tab_i g 0 (group_row ext time b.entry_lists ps T.owners (ts ++ T.rows))
            → grow W n (grown W p x T.rows) (slots_of (take G s.member) s.home s.ints s.exts) ≡ slots_of (take g ps) hs is' es'
            → move_store class f p j s ≡ after hs ps g o'
            → move W A n p σ ≡ state_of ext time f b (move W A n p σ).ops (move_c class f p j m)
        unfolding state_of move
        made x hs ps g o' xe le se me =
            rw me (state_eq ext time A order_is (rw (got_is, ← taken_is) le) (rw (got_is, xe) se) (rw got_is taken_is))

        pub takes : move_store class f p j s ≡ took_store p j s T
        unfolding move_store
        takes = rw (lt-leb _ _ h, ne_eqb _ _ k)

        -- an account of the group
        pub move_had : (get_or s.home p 0 ≡ nowhere → ⊥) → move W A n p σ ≡ state_of ext time f b (move W A n p σ).ops (move_c class f p j m)
        unfolding took_store enter_homes give
        move_had w =
            let hs : has W p lists ≡ true = has_is ∙ rw (ne_eqb _ _ w) in
            made false s.home s.member G spent (rw hs) (gave T.rows refl hs) (grow_is false (take G s.member) s.home il el homed_stays)
            (takes ∙ rw (ne_eqb _ _ w))
          where
            gave : (xs : List ℕ) → T.rows ≡ xs → has W p lists ≡ true → give W p T.rows lists
                ≡ tab_i G 0 (group_row ext time b.entry_lists s.member T.owners (ts ++ T.rows))
            gave [] e hs = ap (λ (z : List ℕ). give W p z lists) e ∙ lists_none e
            gave (r ∷ rs) e hs = give_is r rs e hs

        -- a new one of which nothing was got
        pub move_empty : get_or s.home p 0 ≡ nowhere → T.rows ≡ [] → move W A n p σ
            ≡ state_of ext time f b (move W A n p σ).ops (move_c class f p j m)
        unfolding took_store enter_homes give is_nil
        move_empty w e =
            let hs : has W p lists ≡ false = has_is ∙ rw (eq-eqb _ _ w) in
            made false s.home s.member G (sum spent 1) (rw (hs, e)) (ap (λ (z : List ℕ). give W p z lists) e ∙ lists_none e)
            (grow_is false (take G s.member) s.home il el homed_stays) (takes ∙ rw (eq-eqb _ _ w, eq-eqb (length T.rows) 0 (ap length e)))

        -- a new one
        pub move_new : get_or s.home p 0 ≡ nowhere → (r : ℕ) (rs : List ℕ) → T.rows ≡ r ∷ rs → G < length s.member → p < length s.home
            → move W A n p σ ≡ state_of ext time f b (move W A n p σ).ops (move_c class f p j m)
        unfolding took_store enter_homes is_nil
        move_new w r rs e gs pl =
            let hs : has W p lists ≡ false = has_is ∙ rw (eq-eqb _ _ w) in
            made true (set s.home p j) ps' (G + 1) spent (rw (hs, e)) (give_last r rs e w gs)
            (grow_is true (take (G + 1) ps') (set s.home p j) il el (homed_more w gs pl))
            (takes ∙ rw (eq-eqb _ _ w, ne_eqb (length T.rows) 0 (λ z. omega (arith, z, ap length e))))

        pub move_takes : (get_or s.home p 0 ≡ nowhere → G < length s.member) → p < length s.home → move W A n p σ
            ≡ state_of ext time f b (move W A n p σ).ops (move_c class f p j m)
        move_takes gs pl =
            by_bool (eqb (get_or s.home p 0) nowhere)
            (λ e. let w = eqb-true _ _ e in split T.rows refl w)
            (λ e. move_had (eqb-false _ _ e))
          where
            split : (xs : List ℕ) → T.rows ≡ xs → get_or s.home p 0 ≡ nowhere → move W A n p σ
                ≡ state_of ext time f b (move W A n p σ).ops (move_c class f p j m)
            split [] e w = move_empty w e
            split (r ∷ rs) e w = move_new w r rs e (gs w) pl

        pub takes_ops : (move W A n p σ).ops ≡ o + (1 + (1 + T.pops + cond (is_nil (at W p lists ++ T.rows)) 1 0))
        unfolding state_of move move_ops
        takes_ops =
            let e : length q - length (owned p f.rows 0 T.owners) ≡ T.pops = omega (arith, take_pops ext time A class p l K f.rows 0 os) in
            rw (here_is, at_is, moved_is, room_is, k_is, ne_eqb _ _ k, e)
