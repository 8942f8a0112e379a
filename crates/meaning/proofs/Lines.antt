-- The waiting line and the second pass in the columns are those in what they mean: `serve_sim` and `second_sim`. A slot is found by its
-- number where the rules have it by its number: `has_position`, `found`. Assumes nothing.
use mathlib.Core.Path.{◌≡◌, refl, sym, ap, ap₂, ◌∙◌, subst}
use mathlib.Core.List.{List, [], ◌∷◌, ◌++◌, map}
use mathlib.Core.Bool.{Bool, true, false, cond}
use Prim.Native.Nat.{ℕ, zero, suc, ◌+◌, ◌-◌, ◌<◌, ◌≤◌}
use native.Mathlib.Nat.{le_refl}
use native.Mathlib.Omega.{arith}
use lib.Dec.{eqb, ltb}
use lib.ListN.{get_or}
use borrow.Author.Tests.{eq-eqb, ne_eqb, eqb-true, eqb-false, lt-ltb, le-ltb, ltb-true}
use Rattle.numbers.proofs.Bytes.{by_bool}
use Rattle.rules.specs.World.{World, Slot, Args}
use Rattle.rules.specs.Queues.{has_slot}
use Rattle.rules.specs.Passes.{State, Walked, meet, moves, is_full, visit, serve, second}
use Rattle.columns.specs.Lists.{tab_i}
use Rattle.columns.proofs.Tabs.{later}
use Rattle.moves.specs.declared.Fixed.{Fixed}
use Rattle.meaning.specs.Meaning.{Numbers, Columns, Setting, Agrees, slot_at}
use Rattle.meaning.specs.Walks.{WalkC, moves_c, held_c, full_c, meet_c, visit_c}
use Rattle.meaning.specs.Passes.{serve_c, second_c, position_from}
use Rattle.meaning.specs.Means.{Means, Walks, places}
use Rattle.meaning.proofs.Sims.{meet_sim, moves_is, full_is, visit_sim}

-- ---- positions of slots

-- only the numbers looked at matter
pub position_cong : (ns ms : List ℕ) (x r j : ℕ) → ((i : ℕ) → j ≤ i → i < j + r → get_or ns i 0 ≡ get_or ms i 0)
    → position_from ns x r j ≡ position_from ms x r j
unfolding position_from
position_cong ns ms x zero j h = refl
position_cong ns ms x (suc r) j h = rw (h j (le_refl j) (omega arith), position_cong ns ms x r (j + 1) (later r j h))

pub found : (ns : List ℕ) (x r j : ℕ) → position_from ns x r j < j + r → get_or ns (position_from ns x r j) 0 ≡ x
unfolding position_from
found ns x zero j h = absurd (omega arith)
found ns x (suc r) j h =
    by_bool (eqb (get_or ns j 0) x)
    (λ t. rw t (eqb-true (get_or ns j 0) x t))
    (λ t. rw t (found ns x r (j + 1) (let l = rw t at h in omega arith)))

pub has_position : (ext : ℕ → Bool) (time : ℕ → ℕ) (ns ps hs is es : List ℕ) (x r j : ℕ)
    → has_slot (Numbers ext time) x (tab_i r j (slot_at ext time ns ps hs is es)) ≡ ltb (position_from ns x r j) (j + r)
unfolding position_from has_slot tab_i
has_position ext time ns ps hs is es x zero j = sym (le-ltb j (j + 0) (omega arith))
has_position ext time ns ps hs is es x (suc r) j =
    let e : j + 1 + r ≡ j + suc r = omega arith in
    by_bool (eqb (get_or ns j 0) x)
    (λ t. rw (t, eq-eqb x (get_or ns j 0) (sym (eqb-true (get_or ns j 0) x t)), lt-ltb j (j + suc r) (omega arith)))
    (λ t. rw (t, ne_eqb x (get_or ns j 0) (λ z. eqb-false (get_or ns j 0) x t (sym z)))
    (has_position ext time ns ps hs is es x r (j + 1) ∙ ap (λ z. ltb (position_from ns x r (j + 1)) z) e))

-- the line holds positions of slots
abbrev pub InSlots : (slots : ℕ) → List ℕ → Type 0
InSlots s [] = Unit {0}
InSlots s (j ∷ line) = (j < s) × InSlots s line

pub slots_snoc : (s : ℕ) (line : List ℕ) (j : ℕ) → InSlots s line → j < s → InSlots s (line ++ (j ∷ []))
slots_snoc s [] j h l = (l, tt)
slots_snoc s (k ∷ line) j h l = (h.0, slots_snoc s line j h.1 l)

-- the line after an account was met: x, it was moved; y, the slot is full
abbrev turned : (x y : Bool) (j : ℕ) (line : List ℕ) → List ℕ
turned x y j line = cond x (cond y line (line ++ (j ∷ []))) (j ∷ line)

turned_in : (s : ℕ) (x y : Bool) (j : ℕ) (line : List ℕ) → j < s → InSlots s line → InSlots s (turned x y j line)
turned_in s true true j line l h = h
turned_in s true false j line l h = slots_snoc s line j h l
turned_in s false y j line l h = (l, h)

pub map_snoc : (num : ℕ → ℕ) (line : List ℕ) (j : ℕ) → map num (line ++ (j ∷ [])) ≡ map num line ++ (num j ∷ [])
map_snoc num [] j = refl
map_snoc num (k ∷ line) j = ap (λ (x : List ℕ). num k ∷ x) (map_snoc num line j)

turned_map : (num : ℕ → ℕ) (x y : Bool) (j : ℕ) (line : List ℕ)
    → map num (turned x y j line) ≡ cond x (cond y (map num line) (map num line ++ (num j ∷ []))) (num j ∷ map num line)
turned_map num true true j line = refl
turned_map num true false j line = map_snoc num line j
turned_map num false y j line = refl

module _ (ext : ℕ → Bool) (time : ℕ → ℕ) (A : Args (Numbers ext time)) (class cost : List ℕ) (f : Fixed) (b : Setting)
    (a : Agrees ext time A class cost f) where
  abbrev W : World
  W = Numbers ext time

  abbrev Ms : Columns → State W → Type 0
  Ms m σ = Means ext time A cost f b m σ

  abbrev Ws : WalkC → Walked W → Type 0
  Ws x y = Walks ext time A cost f b x y

  abbrev num : ℕ → ℕ
  num j = get_or b.number j 0

  pub serve_sim : (r i : ℕ) → r ≡ f.places - i → (line : List ℕ) → InSlots b.slots line → {m : Columns} {σ : State W} → Ms m σ
      → Ws (serve_c class cost f line r i m) (serve W A (map num line) (tab_i r i (λ (p : ℕ). p)) σ)
  unfolding serve_c serve tab_i
  serve_sim zero i e [] h v = record { rest = ap (λ x. tab_i x i (λ (p : ℕ). p)) e; now = v }
  serve_sim zero i e (j ∷ line) h v = record { rest = ap (λ x. tab_i x i (λ (p : ℕ). p)) e; now = v }
  serve_sim (suc r) i e [] h v = record { rest = ap (λ x. tab_i x i (λ (p : ℕ). p)) e; now = v }
  serve_sim (suc r) i e (j ∷ line) h {m} {σ} v =
      let l : i < 1280 = omega (arith, v.good.store.places_fit) in
      let met = meet_sim ext time A class cost f b a j h.0 i l v in
      let x = moves_c i m in
      let y = full_c f.height (held_c j (meet_c class cost f j i m)) in
      let go = serve_sim r (i + 1) (omega arith) (turned x y j line) (turned_in b.slots x y j line h.0 h.1) met in
      let same : map num (turned x y j line) ≡ cond (moves W A i σ)
      (cond (is_full W A (num j) (meet W A (num j) i σ)) (map num line) (map num line ++ (num j ∷ []))) (num j ∷ map num line) =
      turned_map num x y j line ∙ ap₂ (λ (p q : Bool). cond p (cond q (map num line) (map num line ++ (num j ∷ []))) (num j ∷ map num line))
      (sym (moves_is ext time A class cost f b a j h.0 i l v)) (sym (full_is ext time A class cost f b a j h.0 met)) in
      subst (λ (z : List ℕ). Ws (serve_c class cost f (turned x y j line) r (i + 1) (meet_c class cost f j i m))
      (serve W A z (tab_i r (i + 1) (λ (p : ℕ). p)) (meet W A (num j) i σ))) same go

  -- the slots of entry are the first e of the columns
  module _ (en : List (Slot W)) (e : ℕ) (el : e ≤ b.slots) (link : (x : ℕ) → has_slot W x en ≡ ltb (position_from b.number x e 0) e) where
    second_by : (xs : List ℕ) (x : ℕ) {w : WalkC} {y : Walked W} → Ws w y
        → ((i : ℕ) (m : Columns) (σ : State W) → Ms m σ
        → Ws (second_c class cost f b.number e xs i m) (second W A en xs (places ext time A cost f b i) σ))
        → Ws (second_c class cost f b.number e xs w.at w.now) (second W A en xs y.rest y.now)
    second_by xs x {w} {y} v go =
        subst (λ (z : List ℕ). Ws (second_c class cost f b.number e xs w.at w.now) (second W A en xs z y.now)) (sym v.rest)
        (go w.at w.now y.now v.now)

    choose : {x y : Bool} → y ≡ x → {p q : WalkC} {c d : Walked W} → (x ≡ true → Ws p c) → (x ≡ false → Ws q d)
        → Ws (cond x p q) (cond y c d)
    choose {x} {y} h {p} {q} {c} {d} g k = rw h (by_bool x (λ z. rw z (g z)) (λ z. rw z (k z)))

    pub second_sim : (xs : List ℕ) (i : ℕ) {m : Columns} {σ : State W} → Ms m σ
        → Ws (second_c class cost f b.number e xs i m) (second W A en xs (places ext time A cost f b i) σ)
    unfolding second_c second
    second_sim [] i v = record { rest = refl; now = v }
    second_sim (x ∷ xs) i {m} {σ} v =
        let j = position_from b.number x e 0 in
        choose (link x)
        (λ z.
        let l : j < e = ltb-true j e z in
        let w = visit_sim ext time A class cost f b a j (omega arith) i v in
        let u : Ws (visit_c class cost f j i m) (visit W A x (places ext time A cost f b i) σ) =
        subst (λ (k : ℕ). Ws (visit_c class cost f j i m) (visit W A k (places ext time A cost f b i) σ))
        (found b.number x e 0 (omega arith)) w in
        second_by xs x u (λ k p q t. second_sim xs k {m = p} {σ = q} t))
        (λ z. second_sim xs i v)
