-- After a move that takes rows the columns fit again: one lemma for an account of the group, one for a new one that gave nothing, one for a
-- new one that gave something. Assumes nothing.
use mathlib.Core.Path.{◌≡◌, refl, sym, ap, ◌∙◌}
use mathlib.Core.Logic.{⊎_elim}
use mathlib.Core.List.{List, [], ◌∷◌, ◌++◌}
use mathlib.Core.Bool.{Bool, true, false, cond, not}
use Prim.Native.Nat.{ℕ, ◌+◌, ◌-◌, ◌<◌, ◌≤◌, min, ◌^◌}
use native.Mathlib.Numerals.{add-one}
use native.Mathlib.Omega.{arith}
use lib.Dec.{eqb}
use lib.ListN.{length, get_or, set, take, get_or-append}
use lib.Seq.{get_or-set_same, get_or-set_other, take-suc-set, get_or-take, get_or-append-add, length-take-le}
use borrow.Author.Tests.{ne_eqb, eqb-true, eqb-false, eq-eqb}
use Rattle.rules.specs.World.{World, Args, Row, is_nil}
use Rattle.rules.specs.Queues.{has, at, is_in}
use Rattle.rules.specs.Passes.{State, move}
use Rattle.moves.specs.declared.Fixed.{Fixed}
use Rattle.columns.specs.Lists.{tab_i}
use Rattle.moves.specs.Moves.{Store, move_store, took_store, enter_homes, wanted_of, take_c, Taking, nowhere, store, tally, sum}
use Rattle.meaning.specs.Meaning.{Numbers, Columns, Setting, state_of, move_c, Agrees, Fits, given, group_row}
use Rattle.numbers.proofs.Bytes.{by_bool}
use Rattle.meaning.proofs.Tabs.{at_none, at_full}
use Rattle.meaning.proofs.Lists.{get_d_out, not_in, is_nil_append, is_in_append, or_false}
use Rattle.columns.specs.Laid.{laid_at}
use Rattle.meaning.proofs.Takes.{take_kept, take_marks}
use Rattle.meaning.proofs.Move.{lt_or_le, marked_row, new_l_is, has_is, taken_is, takes, given_after, takes_ops}

module _ (ext : ℕ → Bool) (time : ℕ → ℕ) (A : Args (Numbers ext time)) (class cost : List ℕ) (f : Fixed) (b : Setting) (o : ℕ) (m : Columns)
    (a : Agrees ext time A class cost f) (v : Fits ext time A f b o m) (p : ℕ) (l : p < 1280) (places : f.places ≤ 256)
    (j : ℕ) (jl : j < b.slots) (gl : m.store.tally.accounts ≤ length m.store.member) (h : p < f.places)
    (k : wanted_of f p j m.store ≡ 0 → ⊥) (tl : m.store.tally.taken ≤ length m.store.taken) (il : j < length m.store.ints)
    (el : j < length m.store.exts) where
  abbrev W : World
  W = Numbers ext time

  abbrev s : Store
  s = m.store

  abbrev os : List ℕ
  os = s.owner

  abbrev σ : State W
  σ = state_of ext time f b o m

  abbrev n : ℕ
  n = get_or b.number j 0

  abbrev K : ℕ
  K = wanted_of f p j s

  abbrev T : Taking
  T = take_c p class K f.rows 0 os

  abbrev ts : List ℕ
  ts = take s.tally.taken s.taken

  abbrev G : ℕ
  G = s.tally.accounts

  abbrev lists : List (Row W)
  lists = tab_i G 0 (group_row ext time b.entry_lists s.member os ts)

  abbrev old_l : ℕ → List ℕ
  old_l g = get_or b.entry_lists g [] ++ given ext time os ts (get_or s.member g 0)

  abbrev new_l : ℕ → List ℕ
  new_l g = get_or b.entry_lists g [] ++ given ext time T.owners (ts ++ T.rows) (get_or s.member g 0)

  abbrev ps' : List ℕ
  ps' = set s.member G p

  abbrev is' : List ℕ
  is' = set s.ints j (get_or s.ints j 0 + T.ints)

  abbrev es' : List ℕ
  es' = set s.exts j (get_or s.exts j 0 + (length T.rows - T.ints))

  abbrev laid : List ℕ
  laid = laid_at s.tally.taken T.rows s.taken

  abbrev spent : ℕ
  spent = sum (sum s.tally.ops 1) (1 + T.pops)

  abbrev after : List ℕ → List ℕ → ℕ → ℕ → Store
  after hs ps g o' = store T.owners laid hs ps is' es' (tally s.tally.joined g (s.tally.taken + length T.rows) o')

  -- what the state's proof has shown
  marked : (t : ℕ) → t < length T.rows → get_or T.owners (get_or T.rows t 0) 0 ≡ 2048 + p
  marked = marked_row ext time A class cost f b o m a v p l places j jl

  gave : (r : ℕ) → given ext time T.owners (ts ++ T.rows) r ≡ given ext time os ts r ++ cond (eqb p r) T.rows []
  gave = given_after ext time A class cost f b o m a v p l places j jl

  list_is : (g : ℕ) → new_l g ≡ old_l g ++ cond (eqb p (get_or s.member g 0)) T.rows []
  list_is = new_l_is ext time A class cost f b o m a v p l places j jl

  has_list : has W p lists ≡ not (eqb (get_or s.home p 0) nowhere)
  has_list = has_is ext time A class cost f b o m a v p l places j jl gl

  taken_now : ts ++ T.rows ≡ take (s.tally.taken + length T.rows) laid
  taken_now = taken_is ext time A class cost f b o m a v p l places j jl gl h k tl il el

  took : move_store class f p j s ≡ took_store p j s T
  took = takes ext time A class cost f b o m a v p l places j jl gl h k tl il el

  spends : (move W A n p σ).ops ≡ o + (1 + (1 + T.pops + cond (is_nil (at W p lists ++ T.rows)) 1 0))
  spends = takes_ops ext time A class cost f b o m a v p l places j jl gl h k tl il el

  taken_at : (t : ℕ) → t < s.tally.taken + length T.rows → get_or laid t 0 ≡ get_or (ts ++ T.rows) t 0
  taken_at t x = sym (get_or-take (s.tally.taken + length T.rows) laid t 0 x) ∙ ap (λ (z : List ℕ). get_or z t 0) (sym taken_now)

  ts_long : length ts ≡ s.tally.taken
  ts_long = length-take-le s.tally.taken s.taken tl

  gone_is : (t : ℕ) → t < s.tally.taken + length T.rows → (get_or laid t 0 < f.rows) × (2048 ≤ get_or T.owners (get_or laid t 0) 0)
  gone_is t x =
      rw (taken_at t x)
      (⊎_elim
      (λ (y : t < s.tally.taken).
      let e : get_or (ts ++ T.rows) t 0 ≡ get_or s.taken t 0 = get_or-append ts T.rows 0 t (omega (arith, ts_long))
      ∙ get_or-take s.tally.taken s.taken t 0 y in
      let g = v.gone t y in
      rw e (g.0, rw (take_kept ext time A class p l K f.rows 0 (get_or s.taken t 0) os (λ z. omega (arith, g.1))) g.1))
      (λ (y : s.tally.taken ≤ t).
      let u : t ≡ length ts + (t - s.tally.taken) = omega (arith, ts_long) in
      let e : get_or (ts ++ T.rows) t 0 ≡ get_or T.rows (t - s.tally.taken) 0 = ap (λ z. get_or (ts ++ T.rows) z 0) u
      ∙ get_or-append-add ts T.rows (t - s.tally.taken) 0 in
      let b' : t - s.tally.taken < length T.rows = omega arith in
      rw e (
        omega (arith, (take_marks ext time A class p l K f.rows 0 (t - s.tally.taken) os b').high),
        omega
            (arith, marked (t - s.tally.taken) b'),
      ))
      (lt_or_le t s.tally.taken))

  fits : (hs ps : List ℕ) (g x y : ℕ) → x ≡ min y (2 ^ 64 - 1)
      → ((r : ℕ) → r < 1280 → is_in W r (take g ps) ≡ not (eqb (get_or hs r 0) nowhere))
      → ((i : ℕ) → i < g → get_or ps i 0 < 1280)
      → ((i r : ℕ) → i < g → r < g → get_or ps i 0 ≡ get_or ps r 0 → i ≡ r)
      → ((i : ℕ) → i < g → is_nil (get_or b.entry_lists i [] ++ given ext time T.owners (ts ++ T.rows) (get_or ps i 0)) ≡ false)
      → length b.entry_lists ≤ g
      → ((r : ℕ) → r < 1280 → get_or hs r 0 ≡ nowhere → given ext time T.owners (ts ++ T.rows) r ≡ [])
      → move_store class f p j s ≡ after hs ps g x
      → Fits ext time A f b y (move_c class f p j m)
  fits hs ps g x y xe ho pa on fi ne lo me = rw me (record {
    inset = v.inset;
    says = v.says;
    total = xe;
    gone = gone_is;
    housed = ho;
    parties = pa;
    once = on;
    filled = λ i z. rw (← taken_now) (fi i z);
    new = ne;
    loose = λ r z w. rw (← taken_now) (lo r z w);
    numbered = v.numbered;
    few = v.few;
  })

  -- where the account is not new, or nothing was got
  loose_is : (eqb (get_or s.home p 0) nowhere ≡ true → T.rows ≡ []) → (r : ℕ) → r < 1280 → get_or s.home r 0 ≡ nowhere
      → given ext time T.owners (ts ++ T.rows) r ≡ []
  loose_is w r z e =
      gave r ∙ rw (v.loose r z e) (by_bool (eqb p r)
      (λ d. rw d (w (eq-eqb _ _ (ap (λ y. get_or s.home y 0) (eqb-true p r d) ∙ e))))
      (λ d. rw d))

  filled_is : (i : ℕ) → i < G → is_nil (new_l i) ≡ false
  filled_is i z = rw (list_is i) (is_nil_append (old_l i) _ (v.filled i z))

  pub fits_had : (get_or s.home p 0 ≡ nowhere → ⊥) → Fits ext time A f b (move W A n p σ).ops (move_c class f p j m)
  unfolding took_store enter_homes
  fits_had w =
      let hs : has W p lists ≡ true = has_list ∙ rw (ne_eqb _ _ w) in
      let full : is_nil (at W p lists ++ T.rows) ≡ false = is_nil_append (at W p lists) T.rows
      (at_full ext time p s.member old_l G 0 (λ i x y. v.filled i (omega arith)) hs) in
      fits s.home s.member G spent _ (rw (spends, full) (omega (arith, v.total))) v.housed v.parties v.once filled_is v.new
      (loose_is (λ d. absurd (w (eqb-true _ _ d)))) (took ∙ rw (ne_eqb _ _ w))

  at_new : get_or s.home p 0 ≡ nowhere → at W p lists ≡ []
  at_new w = at_none ext time p lists (has_list ∙ rw (eq-eqb _ _ w))

  pub fits_empty : get_or s.home p 0 ≡ nowhere → T.rows ≡ [] → Fits ext time A f b (move W A n p σ).ops (move_c class f p j m)
  unfolding took_store enter_homes is_nil
  fits_empty w e =
      fits s.home s.member G (sum spent 1) _ (rw (spends, at_new w, e) (omega (arith, v.total))) v.housed v.parties v.once filled_is
      v.new
      (loose_is (λ d. e)) (took ∙ rw (eq-eqb _ _ w, eq-eqb (length T.rows) 0 (ap length e)))

  pub fits_new : get_or s.home p 0 ≡ nowhere → (r : ℕ) (rs : List ℕ) → T.rows ≡ r ∷ rs → G < length s.member → p < length s.home → j < 64
      → Fits ext time A f b (move W A n p σ).ops (move_c class f p j m)
  unfolding took_store enter_homes is_nil is_in
  fits_new w r rs e gs pl js =
      let out : is_in W p (take G s.member) ≡ false = v.housed p l ∙ rw (eq-eqb _ _ w) in
      let mine : get_or ps' G 0 ≡ p = get_or-set_same s.member G p 0 gs in
      let other : (i : ℕ) → i < G → get_or ps' i 0 ≡ get_or s.member i 0 = λ i x. get_or-set_other s.member G i p 0 (λ z. omega arith) in
      let apart : (i : ℕ) → i < G → get_or s.member i 0 ≡ p → ⊥ = λ i x z. eqb-false p (get_or s.member i 0)
      (not_in ext time p s.member G i out x gl) (sym z) in
      fits (set s.home p j) ps' (G + 1) spent _ (rw (spends, at_new w, e) (omega (arith, v.total)))
      (λ i x. rw (add-one G, take-suc-set s.member G p gs, is_in_append ext time i (take G s.member) (p ∷ []), v.housed i x)
      (by_bool (eqb i p)
      (λ d. let z = eqb-true i p d in rw (z, eq-eqb p p refl, eq-eqb _ _ w, get_or-set_same s.home p j 0 pl, ne_eqb j nowhere (λ y. omega arith)))
      (λ d. rw (d, get_or-set_other s.home p i j 0 (eqb-false i p d)) (or_false (not (eqb (get_or s.home i 0) nowhere))))))
      (λ i x. ⊎_elim (λ (y : i < G). rw (other i y) (v.parties i y)) (λ (y : G ≤ i). let z : i ≡ G = omega arith in rw (z, mine) l) (lt_or_le i G))
      (λ i k' x y z. ⊎_elim
      (λ (a' : i < G). ⊎_elim
      (λ (c' : k' < G). v.once i k' a' c' (rw (other i a', other k' c') at z))
      (λ (c' : G ≤ k'). let u : k' ≡ G = omega arith in absurd (apart i a' (rw (u, other i a', mine) at z))) (lt_or_le k' G))
      (λ (a' : G ≤ i). let u : i ≡ G = omega arith in ⊎_elim
      (λ (c' : k' < G). absurd (apart k' c' (sym (rw (u, other k' c', mine) at z))))
      (λ (c' : G ≤ k'). omega arith) (lt_or_le k' G)) (lt_or_le i G))
      (λ i x. ⊎_elim
      (λ (y : i < G). rw (other i y) (filled_is i y))
      (λ (y : G ≤ i). let z : i ≡ G = omega arith in rw (z, mine, get_d_out b.entry_lists G [] v.new, gave p, v.loose p l w, eq-eqb p p refl, e))
      (lt_or_le i G))
      (omega (arith, v.new))
      (λ i x y. by_bool (eqb p i)
      (λ d. let z = eqb-true p i d in absurd (let u = rw (← z, get_or-set_same s.home p j 0 pl) at y in omega arith))
      (λ d. let z : i ≡ p → ⊥ = λ u. eqb-false p i d (sym u) in gave i ∙ rw (d, v.loose i x (rw (get_or-set_other s.home p i j 0 z) at y))))
      (took ∙ rw (eq-eqb _ _ w, ne_eqb (length T.rows) 0 (λ z. omega (arith, z, ap length e))))
