-- A roster of no members is the fresh column (`listed_none`); a newcomer put behind the last of its slot is one member more (`listed_more`); and
-- what leaves the members' homes as they are leaves the roster right (`listed_same`). Assumes nothing.
use mathlib.Core.Path.{◌≡◌, refl, sym, ap, ◌∙◌}
use mathlib.Core.Logic.{◌⊎◌, inl, inr, ⊎_elim}
use mathlib.Core.List.{List}
use Prim.Native.Nat.{ℕ, ◌+◌, ◌<◌, ◌≤◌}
use native.Mathlib.Nat.{not-suc-le-zero}
use native.Mathlib.Omega.{arith}
use lib.Dec.{eqb, ltb}
use lib.ListN.{length, get_or, set, length-set, replicate, length-replicate, get_or-replicate}
use lib.Seq.{get_or-set_same, get_or-set_other}
use borrow.Author.Tests.{eqb-true, eqb-false, lt-ltb, le-ltb, ltb-true, ltb-false}
use Rattle.numbers.proofs.Bytes.{by_bool}
use Rattle.rosters.specs.Rosters.{next_in, first_in, last_in, home_in, behind, appended, Listed}

-- ---- no members

blank_cell : (n v i : ℕ) → i < n → 1280 ≤ v → 1280 ≤ get_or (replicate n v) i 0
blank_cell n v i l h = rw (get_or-replicate n i v 0 l) h

blank : (n v : ℕ) → n ≡ 1408 → 1280 ≤ v → (home member : List ℕ) → Listed (replicate n v) 0 home member
blank n v e h home member = record {
  long = length-replicate n v ∙ e;
  first_least = λ j g a b c. absurd (not-suc-le-zero b);
  first_own = λ j a b. absurd (omega (arith, blank_cell n v (1280 + j) (omega arith) h));
  next_above = λ g b. absurd (not-suc-le-zero b);
  next_least = λ g k a b c. absurd (not-suc-le-zero b);
  next_own = λ g a b. absurd (not-suc-le-zero a);
  next_none = λ g a b. blank_cell n v g (omega arith) h;
  last_greatest = λ j g a b c. absurd (not-suc-le-zero b);
  last_own = λ j a b. absurd (omega (arith, blank_cell n v (1344 + j) (omega arith) h));
}

pub listed_none : (home member : List ℕ) → Listed (replicate 1408 65535) 0 home member
listed_none home member = blank 1408 65535 refl (omega arith) home member

-- ---- the same members

pub listed_same : {roster : List ℕ} {n : ℕ} {home member home' member' : List ℕ} → Listed roster n home member
    → ((g : ℕ) → g < n → home_in home' member' g ≡ home_in home member g) → Listed roster n home' member'
listed_same h same = record {
  long = h.long;
  first_least = λ j g a b c. h.first_least j g a b (sym (same g b) ∙ c);
  first_own = λ j a b. let w = h.first_own j a b in (w.0, same _ w.0 ∙ w.1);
  next_above = h.next_above;
  next_least = λ g k a b c. h.next_least g k a b (sym (same k b) ∙ c ∙ same g (omega arith));
  next_own = λ g a b. let w = h.next_own g a b in (w.0, same _ w.0 ∙ w.1 ∙ sym (same g a));
  next_none = h.next_none;
  last_greatest = λ j g a b c. h.last_greatest j g a b (sym (same g b) ∙ c);
  last_own = λ j a b. let w = h.last_own j a b in (w.0, same _ w.0 ∙ w.1);
}

-- ---- one member more

-- the cells of a roster with g put behind the last of the slot at j
pub behind_low : (roster : List ℕ) (j : ℕ) → j < 64 → behind roster j < 1344
unfolding behind
behind_low roster j jl =
    by_bool (ltb (last_in roster j) 1280) (λ e. rw e (let z = ltb-true (last_in roster j) 1280 e in omega arith)) (λ e. rw e (omega arith))

module _ (roster : List ℕ) (j g : ℕ) (long : length roster ≡ 1408) (jl : j < 64) where
  abbrev low : behind roster j < 1344
  low = behind_low roster j jl

  at_behind : get_or (appended roster j g) (behind roster j) 0 ≡ g
  unfolding appended
  at_behind =
      get_or-set_other (set roster (behind roster j) g) (1344 + j) (behind roster j) g 0 (λ e. omega (arith, low))
      ∙ get_or-set_same roster (behind roster j) g 0 (omega (arith, low))

  at_other : (x : ℕ) → (x ≡ behind roster j → ⊥) → (x ≡ 1344 + j → ⊥) → get_or (appended roster j g) x 0 ≡ get_or roster x 0
  unfolding appended
  at_other x a b = get_or-set_other (set roster (behind roster j) g) (1344 + j) x g 0 b ∙ get_or-set_other roster (behind roster j) x g 0 a

  at_last : last_in (appended roster j g) j ≡ g
  unfolding appended
  at_last = get_or-set_same (set roster (behind roster j) g) (1344 + j) g 0 (simp length-set (omega arith))

  long_appended : length (appended roster j g) ≡ 1408
  unfolding appended
  long_appended = simp length-set long

below_or_at : {g n : ℕ} → g < n + 1 → (g < n) ⊎ (g ≡ n)
below_or_at {g} {n} l = by_bool (ltb g n) (λ e. inl (ltb-true g n e)) (λ e. inr (let z = ltb-false g n e in omega arith))

same_or_not : (x y : ℕ) → (x ≡ y) ⊎ (x ≡ y → ⊥)
same_or_not x y = by_bool (eqb x y) (λ e. inl (eqb-true x y e)) (λ e. inr (eqb-false x y e))

module _ {roster : List ℕ} {n : ℕ} {home member : List ℕ} (h : Listed roster n home member) (room : n < 1280) {j : ℕ} (jl : j < 64)
    (mine : home_in home member n ≡ j) where
  abbrev put : List ℕ
  put = appended roster j n

  abbrev lives : ℕ → ℕ
  lives g = home_in home member g

  same_last : (i : ℕ) → (i ≡ j → ⊥) → last_in put i ≡ last_in roster i
  same_last i e = at_other roster j n h.long jl (1344 + i) (λ z. omega (arith, behind_low roster j jl)) (λ z. e (omega arith))

  -- the last members, wherever the newcomer is named
  last_greatest' : (i g : ℕ) → i < 64 → g < n + 1 → lives g ≡ i → (g ≤ last_in put i) × (last_in put i < n + 1)
  last_greatest' i g a b c =
      ⊎_elim
      (λ e. let z : last_in put i ≡ n = rw e (at_last roster j n h.long jl) in (omega arith, omega arith))
      (λ e. let s = same_last i e in
      ⊎_elim
      (λ q. let w = h.last_greatest i g a q c in (omega (arith, w.0), omega (arith, w.1)))
      (λ q. absurd (e (sym c ∙ ap lives q ∙ mine)))
      (below_or_at b))
      (same_or_not i j)

  last_own' : (i : ℕ) → i < 64 → last_in put i < 1280 → (last_in put i < n + 1) × (lives (last_in put i) ≡ i)
  last_own' i a b =
      ⊎_elim
      (λ e. let z : last_in put i ≡ n = rw e (at_last roster j n h.long jl) in (omega arith, ap lives z ∙ mine ∙ sym e))
      (λ e. let s = same_last i e in let w = h.last_own i a (omega arith) in (omega (arith, w.0), ap lives s ∙ w.1))
      (same_or_not i j)

  -- the slot has a last member, and the newcomer stands behind it
  module _ (some : last_in roster j < 1280) where
    abbrev l : ℕ
    l = last_in roster j

    cell : behind roster j ≡ l
    unfolding behind
    cell = rw (lt-ltb l 1280 some)

    next_here : next_in put l ≡ n
    next_here = rw cell at (at_behind roster j n h.long jl)

    next_there : (g : ℕ) → g < 1280 → (g ≡ l → ⊥) → next_in put g ≡ next_in roster g
    next_there g a e = at_other roster j n h.long jl g (λ z. e (z ∙ cell)) (λ z. omega arith)

    first_there : (i : ℕ) → i < 64 → first_in put i ≡ first_in roster i
    first_there i a = at_other roster j n h.long jl (1280 + i) (λ z. omega (arith, cell)) (λ z. omega arith)

    first_least_behind : (i g : ℕ) → i < 64 → g < n + 1 → lives g ≡ i → first_in put i ≤ g
    first_least_behind i g a b c =
        let s = first_there i a in
        let w = h.last_own j jl some in
        ⊎_elim
        (λ q. omega (arith, h.first_least i g a q c))
        (λ q. let e : i ≡ j = sym c ∙ ap lives q ∙ mine in omega (arith, w.0, h.first_least i l a w.0 (w.1 ∙ sym e)))
        (below_or_at b)

    next_above_behind : (g : ℕ) → g < n + 1 → g < next_in put g
    next_above_behind g b =
        ⊎_elim
        (λ e. let s : next_in put g ≡ n = rw e next_here in omega (arith, (h.last_own j jl some).0))
        (λ e. let s = next_there g (omega arith) e in
        ⊎_elim (λ q. omega (arith, h.next_above g q)) (λ q. omega (arith, h.next_none g (omega arith) (omega arith))) (below_or_at b))
        (same_or_not g l)

    next_least_behind : (g k : ℕ) → g < k → k < n + 1 → lives k ≡ lives g → next_in put g ≤ k
    next_least_behind g k a b c =
        ⊎_elim
        (λ e. let s : next_in put g ≡ n = rw e next_here in
        ⊎_elim
        (λ q. let w = h.last_greatest j k jl q (c ∙ ap lives e ∙ (h.last_own j jl some).1) in absurd (omega (arith, w.0)))
        (λ q. omega arith)
        (below_or_at b))
        (λ e. let s = next_there g (omega arith) e in
        ⊎_elim
        (λ q. omega (arith, h.next_least g k a q c))
        (λ q. let at_j : lives g ≡ j = sym c ∙ ap lives q ∙ mine in
        let w = h.last_greatest j g jl (omega arith) at_j in
        omega (arith, w.1, h.next_least g l (omega (arith, w.0)) w.1 ((h.last_own j jl some).1 ∙ sym at_j)))
        (below_or_at b))
        (same_or_not g l)

    next_own_behind : (g : ℕ) → g < n + 1 → next_in put g < 1280 → (next_in put g < n + 1) × (lives (next_in put g) ≡ lives g)
    next_own_behind g a b =
        ⊎_elim
        (λ e. let s : next_in put g ≡ n = rw e next_here in (omega arith, ap lives s ∙ mine ∙ sym (h.last_own j jl some).1 ∙ sym (ap lives e)))
        (λ e. let s = next_there g (omega arith) e in
        ⊎_elim
        (λ q. let w = h.next_own g q (omega arith) in (omega (arith, w.0), ap lives s ∙ w.1))
        (λ q. absurd (omega (arith, h.next_none g (omega arith) (omega arith))))
        (below_or_at a))
        (same_or_not g l)

    behind_last : Listed put (n + 1) home member
    behind_last = record {
      long = long_appended roster j n h.long jl;
      first_least = first_least_behind;
      first_own = λ i a b. let s = first_there i a in let w = h.first_own i a (omega arith) in (omega (arith, w.0), ap lives s ∙ w.1);
      next_above = next_above_behind;
      next_least = next_least_behind;
      next_own = next_own_behind;
      next_none = λ g a b. rw (next_there g b (λ e. omega (arith, (h.last_own j jl some).0))) (h.next_none g (omega arith) b);
      last_greatest = last_greatest';
      last_own = last_own';
    }

  -- the slot has none, and the newcomer is its first
  module _ (none : 1280 ≤ last_in roster j) where
    first_cell : behind roster j ≡ 1280 + j
    unfolding behind
    first_cell = rw (le-ltb (last_in roster j) 1280 none)

    nobody : (g : ℕ) → g < n → lives g ≡ j → ⊥
    nobody g a e = let w = h.last_greatest j g jl a e in omega (arith, w.1)

    first_here : first_in put j ≡ n
    first_here = rw first_cell at (at_behind roster j n h.long jl)

    first_else : (i : ℕ) → i < 64 → (i ≡ j → ⊥) → first_in put i ≡ first_in roster i
    first_else i a e = at_other roster j n h.long jl (1280 + i) (λ z. e (omega (arith, first_cell))) (λ z. omega arith)

    next_same : (g : ℕ) → g < 1280 → next_in put g ≡ next_in roster g
    next_same g a = at_other roster j n h.long jl g (λ z. omega (arith, first_cell)) (λ z. omega arith)

    first_least_alone : (i g : ℕ) → i < 64 → g < n + 1 → lives g ≡ i → first_in put i ≤ g
    first_least_alone i g a b c =
        ⊎_elim
        (λ e. let s : first_in put i ≡ n = rw e first_here in
        ⊎_elim (λ q. absurd (nobody g q (c ∙ e))) (λ q. omega arith) (below_or_at b))
        (λ e. let s = first_else i a e in
        ⊎_elim (λ q. omega (arith, h.first_least i g a q c)) (λ q. absurd (e (sym c ∙ ap lives q ∙ mine))) (below_or_at b))
        (same_or_not i j)

    first_own_alone : (i : ℕ) → i < 64 → first_in put i < 1280 → (first_in put i < n + 1) × (lives (first_in put i) ≡ i)
    first_own_alone i a b =
        ⊎_elim
        (λ e. let s : first_in put i ≡ n = rw e first_here in (omega arith, ap lives s ∙ mine ∙ sym e))
        (λ e. let s = first_else i a e in let w = h.first_own i a (omega arith) in (omega (arith, w.0), ap lives s ∙ w.1))
        (same_or_not i j)

    next_own_alone : (g : ℕ) → g < n + 1 → next_in put g < 1280 → (next_in put g < n + 1) × (lives (next_in put g) ≡ lives g)
    next_own_alone g a b =
        let s = next_same g (omega arith) in
        ⊎_elim
        (λ q. let w = h.next_own g q (omega arith) in (omega (arith, w.0), ap lives s ∙ w.1))
        (λ q. absurd (omega (arith, h.next_none g (omega arith) (omega arith))))
        (below_or_at a)

    alone_first : Listed put (n + 1) home member
    alone_first = record {
      long = long_appended roster j n h.long jl;
      first_least = first_least_alone;
      first_own = first_own_alone;
      next_above = λ g b. let s = next_same g (omega arith) in
          ⊎_elim (λ q. omega (arith, h.next_above g q)) (λ q. omega (arith, h.next_none g (omega arith) (omega arith))) (below_or_at b);
      next_least = λ g k a b c. let s = next_same g (omega arith) in
          ⊎_elim (λ q. omega (arith, h.next_least g k a q c)) (λ q. absurd (nobody g (omega arith) (sym c ∙ ap lives q ∙ mine))) (below_or_at b);
      next_own = next_own_alone;
      next_none = λ g a b. rw (next_same g b) (h.next_none g (omega arith) b);
      last_greatest = last_greatest';
      last_own = last_own';
    }

  pub listed_more : Listed (appended roster j n) (n + 1) home member
  listed_more =
      by_bool (ltb (last_in roster j) 1280)
      (λ e. behind_last (ltb-true (last_in roster j) 1280 e))
      (λ e. alone_first (ltb-false (last_in roster j) 1280 e))
