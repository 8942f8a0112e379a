-- Opening a slot in the columns is opening it in what they mean, where the cells of the new position are fresh: `open_sim`; and dropping the
-- slot opened last is dropping it there: `close_sim`. A walk for one slot leaves the cells of later positions fresh: `seek_fresh`.
-- Assumes nothing.
use mathlib.Core.Path.{◌≡◌, refl, sym, ap, ap₂, ◌∙◌}
use mathlib.Core.Logic.{◌⊎◌, inl, inr, ⊎_elim}
use mathlib.Core.List.{List, [], ◌∷◌, ◌++◌}
use mathlib.Core.Bool.{Bool, true, false, not}
use mathlib.Core.Option.{some}
use Prim.Native.Nat.{ℕ, zero, suc, ◌+◌, ◌<◌, ◌≤◌, max}
use native.Mathlib.Nat.{le_refl}
use native.Mathlib.Numerals.{add-one}
use native.Mathlib.Omega.{arith}
use lib.Dec.{eqb, leb}
use lib.ListN.{length, get_or, set, take, length-set}
use lib.Seq.{get_or-set_same, get_or-set_other, get_or-take, length-take-le}
use borrow.Author.Tests.{eq-eqb, ne_eqb, eqb-true, eqb-false}
use Rattle.numbers.proofs.Bytes.{by_bool}
use Rattle.rules.specs.World.{World, Args, Slot, at_least0, keep}
use Rattle.rules.specs.Passes.{State, opened, closed}
use Rattle.columns.specs.Lists.{tab_i}
use Rattle.columns.proofs.Tabs.{tab_cong, tab_snoc, later}
use Rattle.moves.specs.declared.Fixed.{Fixed}
use Rattle.moves.specs.Moves.{move_store, took_store, enter_homes, take_c, wanted_of, nowhere}
use Rattle.meaning.specs.Meaning.{Numbers, Columns, columns_of, Setting, state_of, slot_at, slot, homed, check_c}
use Rattle.meaning.specs.Walks.{held_c, skip_c, free_c, try_c, meet_c, seek_c}
use Rattle.meaning.specs.Means.{Means, Fresh, Low}
use Rattle.meaning.proofs.Lists.{keep_none}

-- ---- fresh cells

-- a cell after a store holds what was stored, or what it held
stored : (l : List ℕ) (p v q : ℕ) → (get_or (set l p v) q 0 ≡ v) ⊎ (get_or (set l p v) q 0 ≡ get_or l q 0)
stored [] p v q = inr refl
stored (x ∷ l) zero v zero = inl refl
stored (x ∷ l) zero v (suc q) = inr refl
stored (x ∷ l) (suc p) v zero = inr refl
stored (x ∷ l) (suc p) v (suc q) = stored l p v q

module _ (class cost : List ℕ) (f : Fixed) (s j : ℕ) (jl : j < s) where
  -- the counts of the slot at j are stored, and a home at j
  stores : (m : Columns) → Fresh s m → (k : Columns) (x y : ℕ) → k.store.ints ≡ set m.store.ints j x → k.store.exts ≡ set m.store.exts j y
      → ((q : ℕ) → (get_or k.store.home q 0 ≡ j) ⊎ (get_or k.store.home q 0 ≡ get_or m.store.home q 0)) → Fresh s k
  stores m v k x y ie ee h = record {
    ints0 = λ i l. rw (ie, get_or-set_other m.store.ints j i x 0 (λ e. omega arith)) (v.ints0 i l);
    exts0 = λ i l. rw (ee, get_or-set_other m.store.exts j i y 0 (λ e. omega arith)) (v.exts0 i l);
    homes = λ q b l. ⊎_elim (λ e. absurd (omega (arith, e, l))) (λ e. e ∙ v.homes q b (omega (arith, e, l))) (h q);
  }

  same : (m k : Columns) → Fresh s m → k.store.ints ≡ m.store.ints → k.store.exts ≡ m.store.exts → k.store.home ≡ m.store.home → Fresh s k
  same m k v a b c = record {
    ints0 = λ i l. rw a (v.ints0 i l);
    exts0 = λ i l. rw b (v.exts0 i l);
    homes = λ q l. rw c (v.homes q l);
  }

  move_fresh : (p : ℕ) (m : Columns) → Fresh s m → Fresh s (columns_of (move_store class f p j m.store) m.mark m.joined)
  unfolding move_store took_store enter_homes
  move_fresh p m v =
      by_bool (leb f.places p)
      (λ e. rw e v)
      (λ e. rw e (by_bool (eqb (wanted_of f p j m.store) 0)
      (λ z. rw z (same m _ v refl refl refl))
      (λ z. rw z (by_bool (eqb (get_or m.store.home p 0) nowhere)
      (λ a. rw a (by_bool (eqb (length (take_c p class (wanted_of f p j m.store) f.rows 0 m.store.owner).rows) 0)
      (λ b. rw b (stores m v _ _ _ refl refl (λ q. inr refl)))
      (λ b. rw b (stores m v _ _ _ refl refl (λ q. stored m.store.home p j q)))))
      (λ a. rw a (stores m v _ _ _ refl refl (λ q. inr refl)))))))

  meet_fresh : (p : ℕ) (m : Columns) → Fresh s m → Fresh s (meet_c class cost f j p m)
  unfolding meet_c try_c
  meet_fresh p m v =
      by_bool (free_c p m)
      (λ a. rw a (by_bool (skip_c p m)
      (λ b. rw b (same m _ v refl refl refl))
      (λ b. rw b (move_fresh p (check_c cost p m) (same m (check_c cost p m) v refl refl refl)))))
      (λ a. rw a (same m _ v refl refl refl))

  pub seek_fresh : (r i : ℕ) (m : Columns) → Fresh s m → Fresh s (seek_c class cost f j r i m).now
  unfolding seek_c
  seek_fresh zero i m v = v
  seek_fresh (suc r) i m v =
      let t = meet_fresh i m v in
      by_bool (eqb (held_c j (meet_c class cost f j i m)) 0)
      (λ e. rw e (seek_fresh r (i + 1) (meet_c class cost f j i m) t))
      (λ e. rw e t)

-- ---- opening

module _ (ext : ℕ → Bool) (time : ℕ → ℕ) (A : Args (Numbers ext time)) (cost : List ℕ) (f : Fixed) (b : Setting) where
  abbrev W : World
  W = Numbers ext time

  -- the number of the slot that is opened next
  abbrev pub next : ℕ
  next = at_least0 b.last + 1

  abbrev pub opening : Setting
  opening = record {
    entry_lists = b.entry_lists;
    entry_skipped = b.entry_skipped;
    slots = b.slots + 1;
    number = set b.number b.slots next;
    last = some next;
  }

  abbrev pub closing : Setting
  closing = record {
    entry_lists = b.entry_lists;
    entry_skipped = b.entry_skipped;
    slots = b.slots;
    number = set (set b.number b.slots next) b.slots 0;
    last = some next;
  }

  module _ (low : Low b) (room : b.slots < 64) where
    same_number : (i : ℕ) → i < b.slots → get_or opening.number i 0 ≡ get_or b.number i 0
    same_number i l = get_or-set_other b.number b.slots i next 0 (λ e. omega arith)

    pub opened_number : get_or opening.number b.slots 0 ≡ next
    opened_number = get_or-set_same b.number b.slots next 0 (omega (arith, low.long))

    closed_number : (i : ℕ) → i < b.slots → get_or closing.number i 0 ≡ get_or opening.number i 0
    closed_number i l = get_or-set_other opening.number b.slots i 0 0 (λ e. omega arith)

    newer : (i : ℕ) → i < b.slots → get_or b.number i 0 ≡ next → ⊥
    newer i l e = omega (arith, low.low i l)

    pub opening_low : Low opening
    unfolding at_least0
    opening_low = record {
      long = simp length-set low.long;
      low = λ i l. by_bool (eqb i b.slots)
          (λ e. rw (eqb-true i b.slots e, opened_number) (le_refl next))
          (λ e. let n = eqb-false i b.slots e in rw (same_number i (omega arith)) (let y = low.low i (omega arith) in omega arith));
    }

    module _ (m : Columns) where
      abbrev at : Setting → ℕ → Slot W
      at c = slot_at ext time c.number (take m.store.tally.accounts m.store.member) m.store.home m.store.ints m.store.exts

      module _ {σ : State W} (v : Means ext time A cost f b m σ) (fresh : Fresh b.slots m) where
        abbrev members : List ℕ
        members = take m.store.tally.accounts m.store.member

        -- no member has its home at the new position
        empty : homed ext time members m.store.home b.slots ≡ []
        empty =
            let fits = v.good.store.enters in
            let long : length members ≡ m.store.tally.accounts = length-take-le m.store.tally.accounts m.store.member
            (omega (arith, fits, v.good.store.member_long)) in
            keep_none _ members (λ t l.
            let g = get_or-take m.store.tally.accounts m.store.member t 0 (omega (arith, long)) in
            rw g (ne_eqb (get_or m.store.home (get_or m.store.member t 0) 0) b.slots
            (λ e. let h = fresh.homes (get_or m.store.member t 0) (v.good.parties t (omega (arith, long))) (omega (arith, e)) in omega
            (arith, e, h))))

        slots_are : tab_i b.slots 0 (at b) ++ (slot ext time next [] 0 0 ∷ []) ≡ tab_i (b.slots + 1) 0 (at opening)
        slots_are =
            let end : at opening b.slots ≡ slot ext time next [] 0 0 =
            rw (opened_number, empty, fresh.ints0 b.slots (le_refl b.slots), fresh.exts0 b.slots (le_refl b.slots)) in
            ap₂ ◌++◌ (tab_cong b.slots 0 (at b) (at opening) (λ i x y. rw (same_number i (omega arith)))) (ap (λ (z : Slot W). z ∷ []) (sym end))
            ∙ sym (tab_snoc b.slots 0 b.slots (at opening) (omega arith)) ∙ ap (λ z. tab_i z 0 (at opening)) (sym (add-one b.slots))

        state_is : opened W A next (state_of ext time f b v.ops m) ≡ state_of ext time f opening v.ops m
        unfolding opened state_of
        state_is =
            let last : max (at_least0 b.last) next ≡ next = omega arith in
            rw (last, slots_are)

        pub open_sim : Means ext time A cost f opening m (opened W A next σ)
        open_sim = record {
          ops = v.ops;
          good = v.good;
          fits = record {
            inset = v.fits.inset;
            says = v.fits.says;
            total = v.fits.total;
            gone = v.fits.gone;
            housed = v.fits.housed;
            parties = v.fits.parties;
            once = v.fits.once;
            filled = v.fits.filled;
            new = v.fits.new;
            loose = v.fits.loose;
            numbered = numbered;
            few = omega arith;
          };
          state = ap (λ (x : State W). opened W A next x) v.state ∙ state_is;
        }
          where
            old : (i j : ℕ) → i < b.slots → j ≡ b.slots → get_or opening.number i 0 ≡ get_or opening.number j 0 → ⊥
            old i j l e z = newer i l (sym (same_number i l) ∙ z ∙ ap (λ k. get_or opening.number k 0) e ∙ opened_number)

            numbered : (i j : ℕ) → i < b.slots + 1 → j < b.slots + 1 → get_or opening.number i 0 ≡ get_or opening.number j 0 → i ≡ j
            numbered i j x y e =
                by_bool (eqb i b.slots)
                (λ p. let z = eqb-true i b.slots p in by_bool (eqb j b.slots)
                (λ q. let w = eqb-true j b.slots q in omega arith)
                (λ q. let w = eqb-false j b.slots q in absurd (old j i (omega arith) z (sym e))))
                (λ p. let z = eqb-false i b.slots p in by_bool (eqb j b.slots)
                (λ q. let w = eqb-true j b.slots q in absurd (old i j (omega arith) w e))
                (λ q. let w = eqb-false j b.slots q in
                v.fits.numbered i j (omega arith) (omega arith) (sym (same_number i (omega arith)) ∙ e ∙ same_number j (omega arith))))

      -- ---- dropping it

      keep_tab : (s : ℕ → Slot W) (z : Slot W) (n i : ℕ) → ((j : ℕ) → i ≤ j → j < i + n → eqb next (s j).number ≡ false) → eqb next z.number
          ≡ true
          → keep (λ x. not (eqb next x.number)) (tab_i n i s ++ (z ∷ [])) ≡ tab_i n i s
      unfolding keep tab_i
      keep_tab s z zero i h e = rw e
      keep_tab s z (suc n) i h e =
          rw (h i (le_refl i) (omega arith)) (ap (λ (l : List (Slot W)). s i ∷ l) (keep_tab s z n (i + 1) (later n i h) e))

      module _ {σ : State W} (v : Means ext time A cost f opening m σ) where
        other : (i : ℕ) → i < b.slots → eqb next (get_or opening.number i 0) ≡ false
        other i l = ne_eqb _ _ (λ e. let z = v.fits.numbered i b.slots (omega arith) (omega arith) (sym (opened_number ∙ e)) in omega arith)

        kept_slots : keep (λ x. not (eqb next x.number)) (tab_i (b.slots + 1) 0 (at opening)) ≡ tab_i b.slots 0 (at closing)
        kept_slots =
            ap (λ (l : List (Slot W)). keep (λ x. not (eqb next x.number)) l)
            (ap (λ z. tab_i z 0 (at opening)) (add-one b.slots) ∙ tab_snoc b.slots 0 b.slots (at opening) (omega arith))
            ∙ keep_tab (at opening) (at opening b.slots) b.slots 0 (λ j x y. other j (omega arith)) (eq-eqb _ _ (sym opened_number))
            ∙ tab_cong b.slots 0 (at opening) (at closing) (λ i x y. rw (closed_number i (omega arith)))

        closed_is : closed W A next (state_of ext time f opening v.ops m) ≡ state_of ext time f closing v.ops m
        unfolding closed state_of
        closed_is = rw kept_slots

        pub close_sim : Means ext time A cost f closing m (closed W A next σ)
        close_sim = record {
          ops = v.ops;
          good = v.good;
          fits = record {
            inset = v.fits.inset;
            says = v.fits.says;
            total = v.fits.total;
            gone = v.fits.gone;
            housed = v.fits.housed;
            parties = v.fits.parties;
            once = v.fits.once;
            filled = v.fits.filled;
            new = v.fits.new;
            loose = v.fits.loose;
            numbered = λ i j x y e.
                v.fits.numbered i j (omega arith) (omega arith) (sym (closed_number i x) ∙ e ∙ closed_number j y);
            few = omega arith;
          };
          state = ap (λ (x : State W). closed W A next x) v.state ∙ closed_is;
        }
