-- One scan that drops for all places from i on is passing over each of them: `sweep_sim`. Assumes nothing.
use mathlib.Core.Path.{◌≡◌, refl, sym, ap₂, subst}
use mathlib.Core.List.{List, [], ◌∷◌}
use mathlib.Core.Bool.{Bool}
use Prim.Native.Nat.{ℕ, zero, suc, ◌+◌, ◌-◌, ◌<◌, ◌≤◌}
use native.Mathlib.Omega.{arith}
use lib.Dec.{eqb, leb}
use lib.ListN.{get_or}
use borrow.Author.Tests.{eqb-true, eqb-false, le-leb, lt-leb, lt-ltb, le-ltb, leb-true, leb-false}
use Rattle.numbers.proofs.Bytes.{by_bool}
use Rattle.rules.specs.World.{Args}
use Rattle.rules.specs.Passes.{State, pass_over, sweep}
use Rattle.columns.specs.Lists.{map_i, tab_i}
use Rattle.moves.specs.declared.Fixed.{Fixed}
use Rattle.moves.specs.Moves.{gone, pass_cell, pass_owners}
use Rattle.meaning.specs.Meaning.{Numbers, Columns, columns_of, Setting, with_owner, Agrees}
use Rattle.meaning.specs.Passes.{sweep_cell, sweep_owners}
use Rattle.meaning.specs.Means.{Means}
use Rattle.meaning.proofs.Sims.{pass_sim}

module _ (class : List ℕ) (a : ℕ) (al : a ≤ 256) where
  one : (p i o : ℕ) → p < a → sweep_cell class (p + 1) a i (pass_cell class p i o) ≡ sweep_cell class p a i o
  one p i o l =
      by_bool (eqb (get_or class i 0) 2)
      (λ k. by_bool (eqb o p)
      (λ e. let z = eqb-true o p e in
      rw (e, k, le-leb (p + 1) gone (omega arith), le-ltb gone a (omega arith), z, le-leb p p (omega arith), lt-ltb p a l))
      (λ e. let z = eqb-false o p e in by_bool (leb p o)
      (λ y. rw (e, k, y, le-leb (p + 1) o (let w = leb-true p o y in omega arith)))
      (λ y. rw (e, k, y, lt-leb (p + 1) o (let w = leb-false p o y in omega arith)))))
      (λ k. by_bool (eqb o p) (λ e. rw (e, k)) (λ e. rw (e, k)))

  sweep_step : (p m i : ℕ) (os : List ℕ) → p < a
      → map_i (sweep_cell class (p + 1) a) m i (map_i (pass_cell class p) m i os) ≡ map_i (sweep_cell class p a) m i os
  unfolding map_i
  sweep_step p zero i os l = refl
  sweep_step p (suc m) i [] l = refl
  sweep_step p (suc m) i (o ∷ os) l = ap₂ ◌∷◌ (one p i o l) (sweep_step p m (i + 1) os l)

  none : (p i o : ℕ) → a ≤ p → sweep_cell class p a i o ≡ o
  none p i o l =
      by_bool (eqb (get_or class i 0) 2)
      (λ k. by_bool (leb p o) (λ y. rw (k, y, le-ltb o a (let w = leb-true p o y in omega arith))) (λ y. rw (k, y)))
      (λ k. rw k)

  sweep_none : (p m i : ℕ) (os : List ℕ) → a ≤ p → map_i (sweep_cell class p a) m i os ≡ os
  unfolding map_i
  sweep_none p zero i os l = refl
  sweep_none p (suc m) i [] l = refl
  sweep_none p (suc m) i (o ∷ os) l = ap₂ ◌∷◌ (none p i o l) (sweep_none p m (i + 1) os l)

module _ (ext : ℕ → Bool) (time : ℕ → ℕ) (A : Args (Numbers ext time)) (class cost : List ℕ) (f : Fixed) (b : Setting)
    (a : Agrees ext time A class cost f) where
  -- the columns with other owners
  abbrev owns : Columns → List ℕ → Columns
  owns m os = columns_of (with_owner m.store os) m.mark m.joined

  pub sweep_sim : (r i : ℕ) → r ≡ f.places - i → {m : Columns} {σ : State (Numbers ext time)} → Means ext time A cost f b m σ
      → Means ext time A cost f b (owns m (sweep_owners class f.rows i f.places m.store.owner))
      (sweep (Numbers ext time) A (tab_i r i (λ (p : ℕ). p)) σ)
  unfolding sweep sweep_owners pass_owners tab_i
  sweep_sim zero i e {m} {σ} v =
      subst (λ (os : List ℕ). Means ext time A cost f b (owns m os) σ)
      (sym (sweep_none class f.places v.good.store.places_fit i f.rows 0 m.store.owner (omega arith))) v
  sweep_sim (suc r) i e {m} {σ} v =
      let go = sweep_sim r (i + 1) (omega arith)
      (pass_sim ext time A class cost f b a v i (omega (arith, v.good.store.places_fit))) in
      subst (λ (os : List ℕ). Means ext time A cost f b (owns m os)
      (sweep (Numbers ext time) A (tab_i r (i + 1) (λ (p : ℕ). p)) (pass_over (Numbers ext time) A i σ)))
      (sweep_step class f.places v.good.store.places_fit i f.rows 0 m.store.owner (omega arith)) go
