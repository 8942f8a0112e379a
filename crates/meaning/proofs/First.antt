-- The first pass in the columns is the first pass in what they mean: `first_sim`. By induction on the slots still to be opened: each opening
-- is `open_sim`, its walk `seek_sim`, a slot still empty is dropped by `close_sim`, and the line is served at the end. The slots that stood
-- before keep their numbers: `first_numbers`. Assumes nothing.
use mathlib.Core.Path.{◌≡◌, refl, sym, ap, ap₂, ◌∙◌, subst}
use mathlib.Core.List.{List, [], ◌∷◌, ◌++◌, map}
use mathlib.Core.Bool.{Bool, true, false, cond}
use mathlib.Core.Option.{Option, some}
use Prim.Native.Nat.{ℕ, zero, suc, ◌+◌, ◌-◌, ◌<◌, ◌≤◌}
use native.Mathlib.Nat.{le_refl}
use native.Mathlib.Numerals.{add-one}
use native.Mathlib.Omega.{arith}
use lib.Dec.{eqb}
use lib.ListN.{get_or, set}
use lib.Seq.{get_or-set_other}
use Rattle.numbers.proofs.Bytes.{by_bool}
use Rattle.rules.specs.World.{World, Args, at_least0}
use Rattle.rules.specs.Queues.{count_of}
use Rattle.rules.specs.Passes.{State, Walked, is_full, seek, opened, closed, first}
use Rattle.moves.specs.declared.Fixed.{Fixed}
use Rattle.meaning.specs.Meaning.{Numbers, Columns, Setting, Agrees}
use Rattle.meaning.specs.Walks.{WalkC, held_c, full_c, seek_c}
use Rattle.meaning.specs.Passes.{PassedC, passed_c, first_c}
use Rattle.meaning.specs.Means.{Means, Walks, places, Fresh, Low, last_after, setting_after}
use Rattle.meaning.proofs.Sims.{seek_sim, held_is, full_is}
use Rattle.meaning.proofs.Lines.{InSlots, slots_snoc, map_snoc, serve_sim}
use Rattle.meaning.proofs.Opens.{seek_fresh, next, opening, opened_number, opening_low, open_sim, close_sim}

-- ---- the numbers that stood stay

pub record Stands (numbers : List ℕ) (slots : ℕ) (x : PassedC) : Type 0 where
  pub more : slots ≤ x.slots
  pub same : (i : ℕ) → i < slots → get_or x.number i 0 ≡ get_or numbers i 0

pub first_numbers : (class cost : List ℕ) (f : Fixed) (k : ℕ) (line numbers : List ℕ) (slots last i : ℕ) (m : Columns)
    → Stands numbers slots (first_c class cost f k line numbers slots last i m)
unfolding first_c
first_numbers class cost f zero line numbers slots last i m = record { more = le_refl slots; same = λ i l. refl }
first_numbers class cost f (suc k) line numbers slots last i m =
    let w = seek_c class cost f slots (f.places - i) i m in
    let apart : (i : ℕ) → i < slots → i ≡ slots → ⊥ = λ i l e. omega arith in
    by_bool (eqb (held_c slots w.now) 0)
    (λ e. rw e (record {
      more = le_refl slots;
      same = λ i l.
          get_or-set_other (set numbers slots (last + 1)) slots i 0 0 (apart i l) ∙ get_or-set_other numbers slots i (last + 1) 0 (apart i l);
    }))
    (λ e. rw e (let go = first_numbers class cost f k
    (cond (full_c f.height (held_c slots w.now)) line (line ++ (slots ∷ []))) (set numbers slots (last + 1)) (slots + 1) (last + 1) w.at
    w.now in
    record {
      more = omega (arith, go.more);
      same = λ i l. go.same i (omega arith) ∙ get_or-set_other numbers slots i (last + 1) 0 (apart i l);
    }))

-- ---- the line of a slot more

more_slots : (s t : ℕ) → s ≤ t → (line : List ℕ) → InSlots s line → InSlots t line
more_slots s t l [] h = tt
more_slots s t l (j ∷ line) h = (omega (arith, h.0), more_slots s t l line h.1)

same_map : (g h : ℕ → ℕ) (s : ℕ) → ((i : ℕ) → i < s → g i ≡ h i) → (line : List ℕ) → InSlots s line → map g line ≡ map h line
same_map g h s e [] l = refl
same_map g h s e (j ∷ line) l = ap₂ ◌∷◌ (e j l.0) (same_map g h s e line l.1)

-- the slot at j joins the line unless it is full
abbrev waiting : Bool → (j : ℕ) → List ℕ → List ℕ
waiting y j line = cond y line (line ++ (j ∷ []))

waiting_in : (s : ℕ) (y : Bool) (j : ℕ) (line : List ℕ) → InSlots s line → j < s → InSlots s (waiting y j line)
waiting_in s true j line h l = h
waiting_in s false j line h l = slots_snoc s line j h l

waiting_map : (g : ℕ → ℕ) (y : Bool) (j : ℕ) (line : List ℕ) → map g (waiting y j line) ≡ waiting y (g j) (map g line)
waiting_map g true j line = refl
waiting_map g false j line = map_snoc g line j

module _ (ext : ℕ → Bool) (time : ℕ → ℕ) (A : Args (Numbers ext time)) (class cost : List ℕ) (f : Fixed) (a : Agrees ext time A class cost f) where
  abbrev W : World
  W = Numbers ext time

  -- what the first pass leaves means where the rules' first pass stops
  abbrev pub Firsts : (k : ℕ) → Setting → PassedC → Walked W → Type 0
  Firsts k b x y = Walks ext time A cost f (setting_after k b x.number x.slots x.last) x.run y

  abbrev num : Setting → ℕ → ℕ
  num b j = get_or b.number j 0

  -- one opened at least: the last number is the last that was given
  last_is : (k : ℕ) (b : Setting) (line : List ℕ) (i : ℕ) (m : Columns) (n : ℕ) → b.last ≡ some n
      → last_after k b.last (first_c class cost f k line b.number b.slots n i m).last
      ≡ some (first_c class cost f k line b.number b.slots n i m).last
  unfolding last_after first_c
  last_is zero b line i m n e = e
  last_is (suc k) b line i m n e = refl

  choose : (k : ℕ) (b : Setting) {x y : Bool} → y ≡ x → (p q : PassedC) {c d : Walked W} → (x ≡ true → Firsts k b p c) → (x ≡ false → Firsts k b q d)
      → Firsts k b (cond x p q) (cond y c d)
  choose k b {x} {y} h p q {c} {d} g u = rw h (by_bool x (λ z. rw z (g z)) (λ z. rw z (u z)))

  -- what is left to do once a slot was opened and its walk stopped
  abbrev Rest : ℕ → Type 0
  Rest k = (b : Setting) (line : List ℕ) (i : ℕ) (m : Columns) (σ : State W) → InSlots b.slots line → b.slots + k ≤ 64 → Low b
      → Fresh b.slots m → Means ext time A cost f b m σ
      → Firsts k b (first_c class cost f k line b.number b.slots (at_least0 b.last) i m)
      (first W A k (at_least0 b.last + 1) (map (num b) line) (places ext time A cost f b i) σ)

  module _ (k : ℕ) (rest : Rest k) (b : Setting) (line : List ℕ) (i : ℕ) (m : Columns) (σ : State W) (in-slots : InSlots b.slots line)
      (room : b.slots + suc k ≤ 64) (low : Low b) (fresh : Fresh b.slots m) (v : Means ext time A cost f b m σ) where
    here : b.slots < 64
    here = omega arith

    abbrev n : ℕ
    n = next ext time A cost f b

    abbrev c : Setting
    c = opening ext time A cost f b

    abbrev w : WalkC
    w = seek_c class cost f b.slots (f.places - i) i m

    abbrev y : Walked W
    y = seek W A n (places ext time A cost f b i) (opened W A n σ)

    sought : Walks ext time A cost f c w y
    sought =
        let o = open_sim ext time A cost f b low here m v fresh in
        subst (λ (z : ℕ). Walks ext time A cost f c w (seek W A z (places ext time A cost f b i) (opened W A n σ)))
        (opened_number ext time A cost f b low here)
        (seek_sim ext time A class cost f c a b.slots (omega arith) (f.places - i) i refl o)

    held : count_of W n y.now.slots ≡ held_c b.slots w.now
    held = subst (λ (z : ℕ). count_of W z y.now.slots ≡ held_c b.slots w.now) (opened_number ext time A cost f b low here)
        (held_is ext time A class cost f c a b.slots (omega arith) sought.now)

    full : is_full W A n y.now ≡ full_c f.height (held_c b.slots w.now)
    full = subst (λ (z : ℕ). is_full W A z y.now ≡ full_c f.height (held_c b.slots w.now)) (opened_number ext time A cost f b low here)
        (full_is ext time A class cost f c a b.slots (omega arith) sought.now)

    abbrev full? : Bool
    full? = full_c f.height (held_c b.slots w.now)

    line_is : map (num c) (waiting full? b.slots line) ≡ waiting (is_full W A n y.now) n (map (num b) line)
    line_is =
        waiting_map (num c) full? b.slots line
        ∙ ap₂ (λ (z : ℕ) (l : List ℕ). waiting full? z l) (opened_number ext time A cost f b low here)
        (same_map (num c) (num b) b.slots (λ j l. get_or-set_other b.number b.slots j n 0 (λ e. omega arith)) line in-slots)
        ∙ ap (λ (z : Bool). waiting z n (map (num b) line)) (sym full)

    grown_fresh : Fresh c.slots m
    grown_fresh = record {
      ints0 = λ j l. fresh.ints0 j (omega arith);
      exts0 = λ j l. fresh.exts0 j (omega arith);
      homes = λ p q l. fresh.homes p q (omega arith);
    }

    abbrev x : PassedC
    x = first_c class cost f k (waiting full? b.slots line) c.number (b.slots + 1) n w.at w.now

    goes : Firsts (suc k) b x (first W A k (suc n) (waiting (is_full W A n y.now) n (map (num b) line)) y.rest y.now)
    unfolding at_least0 last_after
    goes =
        let go = rest c (waiting full? b.slots line) w.at w.now y.now
        (waiting_in (b.slots + 1) full? b.slots line (more_slots b.slots (b.slots + 1) (omega arith) line in-slots) (omega arith))
        (omega arith) (opening_low ext time A cost f b low here)
        (seek_fresh class cost f (b.slots + 1) b.slots (omega arith) (f.places - i) i m grown_fresh) sought.now in
        let named = subst (λ (z : ℕ). Firsts k c x (first W A k z (map (num c) (waiting full? b.slots line)) (places ext time A cost f b w.at)
        y.now)) (add-one n) go in
        let lined = subst (λ (z : List ℕ). Firsts k c x (first W A k (suc n) z (places ext time A cost f b w.at) y.now)) line_is named in
        let walked = subst (λ (z : List ℕ). Firsts k c x (first W A k (suc n) (waiting (is_full W A n y.now) n (map (num b) line)) z y.now))
        (sym sought.rest) lined in
        subst (λ (z : Option ℕ). Walks ext time A cost f
        (record { entry_lists = b.entry_lists; entry_skipped = b.entry_skipped; slots = x.slots; number = x.number; last = z })
        x.run (first W A k (suc n) (waiting (is_full W A n y.now) n (map (num b) line)) y.rest y.now))
        (last_is k c (waiting full? b.slots line) w.at w.now n refl) walked

    stops : Firsts (suc k) b (passed_c w (set c.number b.slots 0) b.slots n) (record { rest = y.rest; now = closed W A n y.now })
    unfolding last_after
    stops = record { rest = sought.rest; now = close_sim ext time A cost f b low here w.now sought.now }

    step : Firsts (suc k) b (first_c class cost f (suc k) line b.number b.slots (at_least0 b.last) i m)
        (first W A (suc k) n (map (num b) line) (places ext time A cost f b i) σ)
    unfolding first_c first
    step = choose (suc k) b (ap (λ z. eqb z 0) held) (passed_c w (set c.number b.slots 0) b.slots n) x (λ z. stops) (λ z. goes)

  served : Rest zero
  unfolding first_c first last_after
  served b line i m σ h room low fresh v = serve_sim ext time A class cost f b a (f.places - i) i refl line h v

  pub first_sim : (k : ℕ) → Rest k
  first_sim zero = served
  first_sim (suc k) = step k (first_sim k)
