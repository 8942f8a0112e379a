-- What a take does to the owners: it collects what the rules' `collect` does, leaves every other queue, counts internals and pops, and marks
-- the rows that it takes. Each is an induction along the scan. Assumes nothing.
use mathlib.Core.Path.{◌≡◌, refl, sym, ap, ◌∙◌}
use mathlib.Core.List.{List, [], ◌∷◌}
use mathlib.Core.Bool.{Bool, false, not}
use Prim.Native.Nat.{ℕ, zero, suc, ◌+◌, ◌-◌, ◌<◌, ◌≤◌}
use native.Mathlib.Nat.{not-suc-le-zero, le_of_suc-le-suc, le_refl, zero-add, sub_self}
use native.Mathlib.Omega.{arith}
use lib.Dec.{eqb}
use borrow.Author.Tests.{ne_eqb, eqb-true}
use lib.ListN.{length, get_or}
use Rattle.rules.specs.World.{World, Args, keep}
use Rattle.rules.specs.Queues.{internals, externals}
use Rattle.rules.specs.Passes.{Taken, collect}
use Rattle.columns.specs.Lists.{pick}
use Rattle.meaning.specs.Meaning.{owned, Numbers}
use Rattle.moves.specs.Moves.{gone, take_c, Taking}
use Rattle.numbers.proofs.Bytes.{by_bool}
use Rattle.meaning.proofs.Queues.{Drops}

module _ (ext : ℕ → Bool) (time : ℕ → ℕ) (A : Args (Numbers ext time)) (class : List ℕ) where
  abbrev W : World
  W = Numbers ext time

  abbrev pub Kinds : ℕ → ℕ → Type 0
  Kinds m i = (j : ℕ) → i ≤ j → j < i + m → ext j ≡ not (eqb (get_or class j 0) 0)

  -- internals and externals are all
  pub both : (ms : List ℕ) → internals W ms + externals W ms ≡ length ms
  unfolding internals externals keep
  both [] = refl
  both (m ∷ ms) = let r = both ms in by_bool (ext m) (λ e. simp e (omega arith)) (λ e. simp e (omega arith))

  later : (m i : ℕ) → Drops ext time A class (suc m) i → Drops ext time A class m (i + 1)
  later m i d j a b = d j (omega arith) (omega arith)

  nothing : (q : List ℕ) → collect W A 0 q ≡ record { got = []; left = q }
  unfolding collect
  nothing [] = refl
  nothing (m ∷ q) = refl

  module _ (p : ℕ) (small : p < 1280) where
    here : eqb gone p ≡ false
    here = ne_eqb gone p (λ e. omega arith)

    mine : eqb (2048 + p) p ≡ false
    mine = ne_eqb (2048 + p) p (λ e. omega arith)

    abbrev T : ℕ → ℕ → ℕ → List ℕ → Taking
    T k m i os = take_c p class k m i os

    pub take_own : (k m i : ℕ) (os : List ℕ) → Drops ext time A class m i
        → collect W A k (owned p m i os) ≡ record { got = (T k m i os).rows; left = owned p m i (T k m i os).owners }
    unfolding collect pick
    take_own k zero i os d = refl
    take_own zero (suc m) i [] d = refl
    take_own zero (suc m) i (o ∷ os) d = nothing (owned p (suc m) i (o ∷ os))
    take_own (suc k) (suc m) i [] d = refl
    take_own (suc k) (suc m) i (o ∷ os) d =
        by_bool (eqb o p)
        (λ e. by_bool (eqb (get_or class i 0) 2)
        (λ f. simp (e, f, here, d i (le_refl i) (omega arith)) (take_own (suc k) m (i + 1) os (later m i d)))
        (λ f. simp (e, f, mine, d i (le_refl i) (omega arith))
        (ap (λ (t : Taken W). record { got = i ∷ t.got; left = t.left }) (take_own k m (i + 1) os (later m i d)))))
        (λ e. simp e (take_own (suc k) m (i + 1) os (later m i d)))

    pub take_pops : (k m i : ℕ) (os : List ℕ) → (T k m i os).pops + length (owned p m i (T k m i os).owners) ≡ length (owned p m i os)
    unfolding pick
    take_pops k zero i os = refl
    take_pops zero (suc m) i os = rw zero-add
    take_pops (suc k) (suc m) i [] = refl
    take_pops (suc k) (suc m) i (o ∷ os) =
        by_bool (eqb o p)
        (λ e. by_bool (eqb (get_or class i 0) 2)
        (λ f. let r = take_pops (suc k) m (i + 1) os in simp (e, f, here) (omega arith))
        (λ f. let r = take_pops k m (i + 1) os in simp (e, f, mine) (omega arith)))
        (λ e. simp e (take_pops (suc k) m (i + 1) os))

    pub take_other : (q k m i : ℕ) (os : List ℕ) → q < 1280 → (q ≡ p → ⊥) → owned q m i (T k m i os).owners ≡ owned q m i os
    unfolding pick
    take_other q k zero i os s n = refl
    take_other q zero (suc m) i os s n = refl
    take_other q (suc k) (suc m) i [] s n = refl
    take_other q (suc k) (suc m) i (o ∷ os) s n =
        let g : eqb gone q ≡ false = ne_eqb gone q (λ e. omega arith) in
        let h : eqb (2048 + p) q ≡ false = ne_eqb (2048 + p) q (λ e. omega arith) in
        by_bool (eqb o p)
        (λ e. let z = ne_eqb o q (λ x. n (sym x ∙ eqb-true o p e)) in by_bool (eqb (get_or class i 0) 2)
        (λ f. simp (e, f, g, z) (take_other q (suc k) m (i + 1) os s n))
        (λ f. simp (e, f, h, z) (take_other q k m (i + 1) os s n)))
        (λ e. simp (e, take_other q (suc k) m (i + 1) os s n))

    pub take_ints : (k m i : ℕ) (os : List ℕ) → Kinds m i → (T k m i os).ints ≡ internals W (T k m i os).rows
    unfolding internals keep
    take_ints k zero i os d = refl
    take_ints zero (suc m) i os d = refl
    take_ints (suc k) (suc m) i [] d = refl
    take_ints (suc k) (suc m) i (o ∷ os) d =
        let d' : Kinds m (i + 1) = λ j a b. d j (omega arith) (omega arith) in
        by_bool (eqb o p)
        (λ e. by_bool (eqb (get_or class i 0) 2)
        (λ f. simp (e, f) (take_ints (suc k) m (i + 1) os d'))
        (λ f. let r = take_ints k m (i + 1) os d' in by_bool (eqb (get_or class i 0) 0)
        (λ g. simp (e, f, d i (le_refl i) (omega arith), g) (omega arith))
        (λ g. simp (e, f, d i (le_refl i) (omega arith), g) (omega arith))))
        (λ e. simp e (take_ints (suc k) m (i + 1) os d'))

    pub take_kept : (k m i j : ℕ) (os : List ℕ) → (get_or os j 0 ≡ p → ⊥) → get_or (T k m i os).owners j 0 ≡ get_or os j 0
    take_kept k zero i j os n = refl
    take_kept zero (suc m) i j os n = refl
    take_kept (suc k) (suc m) i j [] n = refl
    take_kept (suc k) (suc m) i zero (o ∷ os) n = rw (ne_eqb o p n)
    take_kept (suc k) (suc m) i (suc j) (o ∷ os) n =
        by_bool (eqb o p)
        (λ e. by_bool (eqb (get_or class i 0) 2)
        (λ f. simp (e, f) (take_kept (suc k) m (i + 1) j os n))
        (λ f. simp (e, f) (take_kept k m (i + 1) j os n)))
        (λ e. simp e (take_kept (suc k) m (i + 1) j os n))

    -- a row that is taken: where it is, and its owner afterwards
    pub record Mark (m i : ℕ) (os : List ℕ) (r : ℕ) : Type 0 where
      pub low : i ≤ r
      pub high : r < i + m
      pub owner : get_or os (r - i) 0 ≡ 2048 + p

    more : (m i : ℕ) (o : ℕ) (os : List ℕ) (r : ℕ) → Mark m (i + 1) os r → Mark (suc m) i (o ∷ os) r
    more m i o os r v =
        let e : r - i ≡ suc (r - (i + 1)) = omega (arith, v.low) in
        record { low = omega (arith, v.low); high = omega (arith, v.high); owner = rw e v.owner }

    chosen_marks : (m i : ℕ) (os rows owners : List ℕ) → ((t : ℕ) → t < length rows → Mark m (i + 1) owners (get_or rows t 0))
        → (t : ℕ) → t < suc (length rows) → Mark (suc m) i ((2048 + p) ∷ owners) (get_or (i ∷ rows) t 0)
    chosen_marks m i os rows owners h zero l = record { low = le_refl i; high = omega arith; owner = rw (sub_self i) }
    chosen_marks m i os rows owners h (suc t) l = more m i (2048 + p) _ _ (h t (le_of_suc-le-suc l))

    pub take_marks : (k m i t : ℕ) (os : List ℕ) → t < length (T k m i os).rows → Mark m i (T k m i os).owners (get_or (T k m i os).rows t 0)
    take_marks k zero i t os l = absurd (not-suc-le-zero l)
    take_marks zero (suc m) i t os l = absurd (not-suc-le-zero l)
    take_marks (suc k) (suc m) i t [] l = absurd (not-suc-le-zero l)
    take_marks (suc k) (suc m) i t (o ∷ os) l =
        by_bool (eqb o p)
        (λ e. by_bool (eqb (get_or class i 0) 2)
        (λ f. simp (e, f) (more m i gone _ _ (take_marks (suc k) m (i + 1) t os (simp (e, f) at l))))
        (λ f. simp (e, f) (chosen_marks m i os (T k m (i + 1) os).rows (T k m (i + 1) os).owners (λ u h. take_marks k m (i + 1) u os h) t
        (simp (e, f) at l))))
        (λ e. simp e (more m i o _ _ (take_marks (suc k) m (i + 1) t os (simp e at l))))
