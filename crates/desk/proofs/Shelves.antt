-- Behind the third place stands the fourth group, and joins done so many times. Assumes nothing.
use mathlib.Core.Path.{◌≡◌, refl, subst}
use Prim.Native.Nat.{ℕ, zero, suc}
use Rattle.std.specs.Prelude.{◌≢◌}
use Rattle.message.specs.Answers.{Code}
use Rattle.lintelsong.specs.declared.Group.{Group}
use Rattle.lintelsong.specs.Closed.{Joins}
use Rattle.desk.specs.declared.shelf.Shelf.{Shelf}
use Rattle.desk.specs.Shelves.{held_at, with_at, JoinsOn}

pub fourth_held : (place : ℕ) (s : Shelf) → place ≢ 0 → place ≢ 1 → place ≢ 2 → s.fourth ≡ held_at place s
unfolding held_at
fourth_held zero s a b c = absurd (a refl)
fourth_held (suc zero) s a b c = absurd (b refl)
fourth_held (suc (suc zero)) s a b c = absurd (c refl)
fourth_held (suc (suc (suc n))) s a b c = refl

pub fourth_put : (place : ℕ) (g : Group) (s : Shelf) → place ≢ 0 → place ≢ 1 → place ≢ 2
    → record { made = s.made; first = s.first; second = s.second; third = s.third; fourth = g } ≡ with_at place g s
unfolding with_at
fourth_put zero g s a b c = absurd (a refl)
fourth_put (suc zero) g s a b c = absurd (b refl)
fourth_put (suc (suc zero)) g s a b c = absurd (c refl)
fourth_put (suc (suc (suc n))) g s a b c = refl

-- ---- one join, one more, and as many
pub join_first : (l r : Group) (code : Code) (l' r' : Group) → Joins l r code l' r' → JoinsOn 0 l r code l' r'
unfolding JoinsOn
join_first l r code l' r' j = j

pub join_more : (n m : ℕ) (l r : Group) (before : Code) (a b : Group) (code : Code) (l' r' : Group)
    → suc n ≡ m → JoinsOn n l r before a b → Joins a b code l' r' → JoinsOn m l r code l' r'
unfolding JoinsOn
join_more n m l r before a b code l' r' e on j = subst (λ (k : ℕ). JoinsOn k l r code l' r') e (before, a, b, on, j)

pub join_same : (n m : ℕ) (l r : Group) (code : Code) (l' r' : Group) → n ≡ m → JoinsOn n l r code l' r' → JoinsOn m l r code l' r'
join_same n m l r code l' r' e on = subst (λ (k : ℕ). JoinsOn k l r code l' r') e on
