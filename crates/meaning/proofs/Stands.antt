-- Who stands in the group stays there: a visit leaves each member, and the home of each, as they are, and only adds members behind them
-- (`visit_stands`). A check and passing over change neither; a party that a move lets in was nobody's. Assumes nothing.
use mathlib.Core.Path.{◌≡◌, refl, ◌∙◌}
use mathlib.Core.List.{List}
use Prim.Native.Nat.{ℕ, ◌+◌, ◌<◌, ◌≤◌}
use native.Mathlib.Omega.{arith}
use lib.ListN.{get_or, set}
use Rattle.moves.specs.declared.Fixed.{Fixed}
use Rattle.moves.specs.Moves.{nowhere}
use Rattle.meaning.specs.Meaning.{Columns, marks_of, check_c, pass_c, move_c}
use Rattle.meaning.specs.Walks.{Good, visit_c}
use Rattle.meaning.proofs.Kept.{check_accounts, move_roll, others_stay, others_live, check_keeps, pass_keeps, move_keeps}
use Rattle.meaning.proofs.Through.{Steps, visit_through}

-- the first k members of a group of n or more are what they were, and live where they did
pub record Stand (home₀ member₀ : List ℕ) (k : ℕ) (home member : List ℕ) (n : ℕ) : Type 0 where
  pub more : k ≤ n
  pub members : (g : ℕ) → g < k → get_or member g 0 ≡ get_or member₀ g 0
  pub homes : (g : ℕ) → g < k → get_or home (get_or member g 0) 0 ≡ get_or home₀ (get_or member₀ g 0) 0

-- the members of m stand in t
abbrev pub Stands : (m t : Columns) → Type 0
Stands m t = Stand m.store.home m.store.member m.store.tally.accounts t.store.home t.store.member t.store.tally.accounts

pub stands_self : (m : Columns) → Stands m m
stands_self m = record { more = omega arith; members = λ g l. refl; homes = λ g l. refl }

module _ {f : Fixed} {cost : List ℕ} (class : List ℕ) (m : Columns) {t : Columns} (good : Good f cost t) (s : Stands m t) where
  check_stands : (p : ℕ) → Stands m (check_c cost p t)
  check_stands p = record { more = omega (arith, s.more, check_accounts cost p (marks_of t)); members = s.members; homes = s.homes }

  pass_stands : (p : ℕ) → Stands m (pass_c class f p t)
  pass_stands p = record { more = s.more; members = s.members; homes = s.homes }

  -- the members with a party behind them that had no home
  entered_stands : (p j : ℕ) → get_or t.store.home p 0 ≡ nowhere
      → Stand m.store.home m.store.member m.store.tally.accounts
      (set t.store.home p j) (set t.store.member t.store.tally.accounts p) (t.store.tally.accounts + 1)
  entered_stands p j free = record {
    more = omega (arith, s.more);
    members = λ g l.
        others_stay t.store.home t.store.member t.store.tally.accounts good.homes p j free g (omega (arith, s.more)) ∙ s.members g l;
    homes = λ g l.
        others_live t.store.home t.store.member t.store.tally.accounts good.homes p j free g (omega (arith, s.more)) ∙ s.homes g l;
  }

  move_stands : (p j : ℕ) → Stands m (move_c class f p j t)
  move_stands p j =
      move_roll class f p j t.store (Stand m.store.home m.store.member m.store.tally.accounts) s (entered_stands p j)

module _ (class cost : List ℕ) (f : Fixed) (m : Columns) where
  abbrev Standing : Columns → Type 0
  Standing t = Good f cost t × Stands m t

  standing : Good f cost m → Steps class cost f 64 Standing (λ t. Unit {0})
  standing g = record {
    check = λ p l t h. (check_keeps h.0 class p l, check_stands class m h.0 h.1 p);
    pass = λ p l t h. (pass_keeps h.0 class p l, pass_stands class m h.0 h.1 p);
    move = λ p j l jl t h. (move_keeps h.0 class p l j jl, move_stands class m h.0 h.1 p j);
    sweep = λ i t h. tt;
    bill = λ t h. tt;
    parties = λ t h. h.0.parties;
    places = g.store.places_fit;
  }

  pub visit_stands : Good f cost m → (j i : ℕ) → j < 64 → Stands m (visit_c class cost f j i m).now
  visit_stands g j i jl = (visit_through (standing g) j i jl m (g, stands_self m)).1
