-- What a walk for one slot makes of that slot alone (moves/proofs/Alone.antt) it makes of the slot in its table, and it leaves the other slots of
-- the table as they are. `within` puts the counts of one slot into a table; every routine on columns commutes with it, by induction, as each
-- reads and writes the counts of its own slot only. So the record of a slot can go by value, and come back into the table.
-- Assumes nothing.
use mathlib.Core.Path.{◌≡◌, refl, sym, ap, ◌∙◌}
use mathlib.Core.Bool.{Bool, true, false, cond, not}
use mathlib.Core.List.{List}
use Prim.Native.Nat.{ℕ, zero, suc, ◌+◌, ◌-◌, ◌<◌, ◌≤◌}
use native.Mathlib.Omega.{arith}
use lib.Dec.{eqb, leb}
use lib.ListN.{length, get_or, set, length-set}
use lib.Seq.{get_or-set_same, set-set, set-get_or}
use borrow.Author.Tests.{eqb-true, eqb-false}
use Rattle.moves.specs.declared.Fixed.{Fixed}
use Rattle.moves.specs.declared.Tally.{Tally}
use Rattle.moves.specs.Moves.{Store, store, Taking, with_tally, costs, queued_c, held_at, wanted_c, wanted_of, take_c, took_store, move_store, alone}
use Rattle.moves.proofs.Alone.{alone_long, alone_at, alone_other}
use Rattle.numbers.proofs.Bytes.{by_bool}
use Rattle.meaning.specs.Meaning.{Columns, columns, columns_of, check_c, pass_c, move_c}
use Rattle.meaning.specs.Walks.{Ready, WalkC, walk, skip_c, free_c, moves_c, held_c, full_c, try_c, meet_c, seek_c, reach_c, own_c, visit_c}
use Rattle.meaning.proofs.Kept.{either}

-- a map is carried out of a test
pick : {A B : Type 0} (g : A → B) {c d : Bool} {x y : B} (x' y' : A) → c ≡ d → x ≡ g x' → y ≡ g y' → cond c x y ≡ g (cond d x' y')
pick g {d = true} x' y' e a b = rw e a
pick g {d = false} x' y' e a b = rw e b

module _ (s : ℕ) (is es : List ℕ) where
  -- the counts of the slot at s are put into the table of the columns is, es
  abbrev within_store : Store → Store
  within_store x = store x.owner x.taken x.home x.member (set is s (get_or x.ints s 0)) (set es s (get_or x.exts s 0)) x.tally

  abbrev within : Columns → Columns
  within m = columns_of (within_store m.store) m.mark m.joined

  abbrev within_walk : WalkC → WalkC
  within_walk w = walk w.at (within w.now)

-- there is a slot at s
abbrev Has : ℕ → Store → Type 0
Has s x = (s < length x.ints) × (s < length x.exts)

-- ---- one account
module _ (class cost : List ℕ) (f : Fixed) (s : ℕ) where
  move_has : (p : ℕ) (x : Store) → Has s x → Has s (move_store class f p s x)
  unfolding move_store took_store
  move_has p x h =
      either (Has s) (leb f.places p) h
      (either (Has s) (eqb (wanted_of f p s x) 0) h (rw (length-set x.ints s _) h.0, rw (length-set x.exts s _) h.1))

  try_has : (p : ℕ) (m : Columns) → Has s m.store → Has s (try_c class cost f s p m).store
  unfolding try_c
  try_has p m h = either (λ (x : Columns). Has s x.store) (skip_c p m) h (move_has p (check_c cost p m).store h)

  meet_has : (p : ℕ) (m : Columns) → Has s m.store → Has s (meet_c class cost f s p m).store
  unfolding meet_c
  meet_has p m h = either (λ (x : Columns). Has s x.store) (free_c p m) (try_has p m h) h

  own_has : (r g : ℕ) (m : Columns) → Has s m.store → Has s (own_c class cost f s r g m).store
  unfolding own_c
  own_has zero g m h = h
  own_has (suc r) g m h =
      let p = get_or m.store.member g 0 in
      let t = try_c class cost f s p m in
      let k : Has s t.store = try_has p m h in
      either (λ (x : Columns). Has s x.store) (eqb (get_or m.store.home p 0) s)
      (either (λ (x : Columns). Has s x.store) (cond (not (skip_c p m)) (full_c f.height (held_c s t)) false) k (own_has r (g + 1) t k))
      (own_has r (g + 1) m h)

  module _ (is es : List ℕ) (il : s < length is) (el : s < length es) where
    held_within : (m : Columns) → held_c s (within s is es m) ≡ held_c s m
    held_within m i = get_or-set_same is s (get_or m.store.ints s 0) 0 il i + get_or-set_same es s (get_or m.store.exts s 0) 0 el i

    -- a count that grows, in the table and alone
    grown : (ts xs : List ℕ) (n : ℕ) → s < length ts → s < length xs → set (set ts s (get_or xs s 0)) s (get_or (set ts s (get_or xs s 0)) s 0 + n)
        ≡ set ts s (get_or (set xs s (get_or xs s 0 + n)) s 0)
    grown ts xs n tl xl =
        rw (set-set ts s (get_or xs s 0) _, get_or-set_same ts s (get_or xs s 0) 0 tl, get_or-set_same xs s (get_or xs s 0 + n) 0 xl)

    took_within : (p : ℕ) (x : Store) → Has s x → (t : Taking) → took_store p s (within_store s is es x) t ≡ within_store s is es (took_store p s x t)
    unfolding took_store
    took_within p x h t i =
        let y = took_store p s x t in
        store y.owner y.taken y.home y.member (grown is x.ints t.ints il h.0 i)
        (grown es x.exts (length t.rows - t.ints) el h.1 i) y.tally

    wanted_within : (p : ℕ) (x : Store) → wanted_of f p s (within_store s is es x) ≡ wanted_of f p s x
    wanted_within p x i =
        wanted_c (queued_c f.rows p x.owner) f.height
        (get_or-set_same is s (get_or x.ints s 0) 0 il i + get_or-set_same es s (get_or x.exts s 0) 0 el i)

    move_within : (p : ℕ) (x : Store) → Has s x → move_store class f p s (within_store s is es x) ≡ within_store s is es (move_store class f p s x)
    unfolding move_store
    move_within p x h =
        let n = wanted_of f p s x in
        let took : ℕ → Store → Store = (λ n y. took_store p s y (take_c p class n f.rows 0 x.owner)) in
        let none = with_tally x (costs x.tally 1) in
        pick (within_store s is es) {c = leb f.places p} {d = leb f.places p} x (cond (eqb n 0) none (took n x)) refl refl
        (pick (within_store s is es) none (took n x) (ap (λ (n : ℕ). eqb n 0) (wanted_within p x)) refl
        (ap (λ (n : ℕ). took n (within_store s is es x)) (wanted_within p x)
        ∙ took_within p x h (take_c p class n f.rows 0 x.owner)))

    try_within : (p : ℕ) (m : Columns) → Has s m.store → try_c class cost f s p (within s is es m) ≡ within s is es (try_c class cost f s p m)
    unfolding try_c
    try_within p m h =
        let c = check_c cost p m in
        pick (within s is es) {c = skip_c p m} {d = skip_c p m} (pass_c class f p c) (move_c class f p s c) refl refl
        (ap (λ (x : Store). columns_of x c.mark c.joined) (move_within p c.store h))

    meet_within : (p : ℕ) (m : Columns) → Has s m.store → meet_c class cost f s p (within s is es m) ≡ within s is es (meet_c class cost f s p m)
    unfolding meet_c
    meet_within p m h =
        pick (within s is es) {c = free_c p m} {d = free_c p m} (try_c class cost f s p m) (pass_c class f p m) refl (try_within p m h) refl

    -- ---- the walks
    held_after : {t : Columns} (u : Columns) → t ≡ within s is es u → held_c s t ≡ held_c s u
    held_after u e = ap (held_c s) e ∙ held_within u

    seek_within : (r i : ℕ) (m : Columns) → Has s m.store
        → seek_c class cost f s r i (within s is es m) ≡ within_walk s is es (seek_c class cost f s r i m)
    unfolding seek_c
    seek_within zero i m h = refl
    seek_within (suc r) i m h =
        let t = meet_c class cost f s i m in
        let e = meet_within i m h in
        pick (within_walk s is es) (seek_c class cost f s r (i + 1) t) (walk (i + 1) t) (ap (λ (n : ℕ). eqb n 0) (held_after t e))
        (ap (seek_c class cost f s r (i + 1)) e ∙ seek_within r (i + 1) t (meet_has i m h)) (ap (walk (i + 1)) e)

    reach_within : (r i : ℕ) (m : Columns) → Has s m.store
        → reach_c class cost f s r i (within s is es m) ≡ within_walk s is es (reach_c class cost f s r i m)
    unfolding reach_c
    reach_within zero i m h = refl
    reach_within (suc r) i m h =
        let t = meet_c class cost f s i m in
        let e = meet_within i m h in
        pick (within_walk s is es) (walk (i + 1) t) (reach_c class cost f s r (i + 1) t)
        (ap (λ (n : ℕ). cond (moves_c i m) (full_c f.height n) false) (held_after t e)) (ap (walk (i + 1)) e)
        (ap (reach_c class cost f s r (i + 1)) e ∙ reach_within r (i + 1) t (meet_has i m h))

    own_within : (r g : ℕ) (m : Columns) → Has s m.store
        → own_c class cost f s r g (within s is es m) ≡ within s is es (own_c class cost f s r g m)
    unfolding own_c
    own_within zero g m h = refl
    own_within (suc r) g m h =
        let p = get_or m.store.member g 0 in
        let t = try_c class cost f s p m in
        let e = try_within p m h in
        let full = cond (not (skip_c p m)) (full_c f.height (held_c s t)) false in
        let here = eqb (get_or m.store.home p 0) s in
        pick (within s is es) {c = here} {d = here} (cond full t (own_c class cost f s r (g + 1) t)) (own_c class cost f s r (g + 1) m) refl
        (pick (within s is es) t (own_c class cost f s r (g + 1) t)
        (ap (λ (n : ℕ). cond (not (skip_c p m)) (full_c f.height n) false) (held_after t e)) e
        (ap (own_c class cost f s r (g + 1)) e ∙ own_within r (g + 1) t (try_has p m h)))
        (own_within r (g + 1) m h)

    visit_within : (i : ℕ) (m : Columns) → Has s m.store
        → visit_c class cost f s i (within s is es m) ≡ within_walk s is es (visit_c class cost f s i m)
    unfolding visit_c
    visit_within i m h =
        let o = own_c class cost f s m.store.tally.accounts 0 m in
        let e = own_within m.store.tally.accounts 0 m h in
        pick (within_walk s is es) (walk i o) (reach_c class cost f s (f.places - i) i o) (ap (full_c f.height) (held_after o e)) (ap (walk i) e)
        (ap (reach_c class cost f s (f.places - i) i) e ∙ reach_within (f.places - i) i o (own_has m.store.tally.accounts 0 m h))

-- ---- from the slot alone to its table, in which it holds a internals and b externals
module _ {f : Fixed} {class cost o w h p is es k j : List ℕ} {t : Tally} (v : Ready f class cost (columns o w h p is es k j t)) {s : ℕ} (l : s < 64)
    {a b : ℕ} (ia : get_or is s 0 ≡ a) (eb : get_or es s 0 ≡ b) where
  few : (i : ℕ) → i < 64 → held_at (alone s a) (alone s b) i ≤ 16
  few i il =
      by_bool (eqb i s)
      (λ z. let u = eqb-true i s z in rw (u, alone_at s a l, alone_at s b l, ← ia, ← eb) (v.good.store.small s l))
      (λ z. let u = eqb-false i s z in rw (alone_other i s a u, alone_other i s b u) (omega arith))

  -- what the routines need of a table they need of the slot alone
  pub ready_alone : Ready f class cost (columns o w h p (alone s a) (alone s b) k j t)
  ready_alone = record {
    good = record {
      store = record {
        owner_long = v.good.store.owner_long;
        taken_long = v.good.store.taken_long;
        home_long = v.good.store.home_long;
        member_long = v.good.store.member_long;
        ints_long = alone_long s a;
        exts_long = alone_long s b;
        rows_fit = v.good.store.rows_fit;
        places_fit = v.good.store.places_fit;
        height_fit = v.good.store.height_fit;
        small = few;
        takes = v.good.store.takes;
        enters = v.good.store.enters;
      };
      marks = v.good.marks;
      cost_long = v.good.cost_long;
      parties = v.good.parties;
      homes = v.good.homes;
    };
    linked = v.linked;
  }

  il : s < length is
  il = omega (arith, v.good.store.ints_long)

  el : s < length es
  el = omega (arith, v.good.store.exts_long)

  has : Has s (store o w h p (alone s a) (alone s b) t)
  has = (omega (arith, alone_long s a), omega (arith, alone_long s b))

  before : within s is es (columns o w h p (alone s a) (alone s b) k j t) ≡ columns o w h p is es k j t
  before i =
      columns o w h p ((ap (set is s) (alone_at s a l ∙ sym ia) ∙ set-get_or is s 0) i) ((ap (set es s) (alone_at s b l ∙ sym eb) ∙ set-get_or es s 0) i)
      k j t

  module _ {o' w' h' p' k' j' : List ℕ} (a' b' : ℕ) {t' : Tally} where
    after : within s is es (columns o' w' h' p' (alone s a') (alone s b') k' j' t') ≡ columns o' w' h' p' (set is s a') (set es s b') k' j' t'
    after i = columns o' w' h' p' (set is s (alone_at s a' l i)) (set es s (alone_at s b' l i)) k' j' t'

    pub meet_in_table : (q : ℕ)
        → columns o' w' h' p' (alone s a') (alone s b') k' j' t' ≡ meet_c class cost f s q (columns o w h p (alone s a) (alone s b) k j t)
        → columns o' w' h' p' (set is s a') (set es s b') k' j' t' ≡ meet_c class cost f s q (columns o w h p is es k j t)
    meet_in_table q e =
        sym after ∙ ap (within s is es) e ∙ sym (meet_within class cost f s is es il el q (columns o w h p (alone s a) (alone s b) k j t) has)
        ∙ ap (meet_c class cost f s q) before

    -- a walk leaves columns and the place where it stopped
    walked : (F : Columns → WalkC) {n : ℕ} → ((m : Columns) → Has s m.store → F (within s is es m) ≡ within_walk s is es (F m))
        → walk n (columns o' w' h' p' (alone s a') (alone s b') k' j' t') ≡ F (columns o w h p (alone s a) (alone s b) k j t)
        → walk n (columns o' w' h' p' (set is s a') (set es s b') k' j' t') ≡ F (columns o w h p is es k j t)
    walked F {n} c e =
        ap (walk n) (sym after) ∙ ap (within_walk s is es) e ∙ sym (c (columns o w h p (alone s a) (alone s b) k j t) has) ∙ ap F before

    pub seek_in_table : (r i : ℕ) {n : ℕ}
        → walk n (columns o' w' h' p' (alone s a') (alone s b') k' j' t') ≡ seek_c class cost f s r i (columns o w h p (alone s a) (alone s b) k j t)
        → walk n (columns o' w' h' p' (set is s a') (set es s b') k' j' t') ≡ seek_c class cost f s r i (columns o w h p is es k j t)
    seek_in_table r i = walked (seek_c class cost f s r i) (seek_within class cost f s is es il el r i)

    pub visit_in_table : (i : ℕ) {n : ℕ}
        → walk n (columns o' w' h' p' (alone s a') (alone s b') k' j' t') ≡ visit_c class cost f s i (columns o w h p (alone s a) (alone s b) k j t)
        → walk n (columns o' w' h' p' (set is s a') (set es s b') k' j' t') ≡ visit_c class cost f s i (columns o w h p is es k j t)
    visit_in_table i = walked (visit_c class cost f s i) (visit_within class cost f s is es il el i)
