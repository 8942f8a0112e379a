-- The column of a table in which only one slot holds anything: its length, what stands at that slot and at another, a store at that slot,
-- and what the slot then holds. So a rule on columns says what a routine makes of the record of one slot. Assumes nothing.
use mathlib.Core.Path.{◌≡◌, refl, ◌∙◌}
use Prim.Native.Nat.{ℕ, zero, suc, ◌+◌, ◌<◌}
use native.Mathlib.Omega.{arith}
use lib.ListN.{length, get_or, set, replicate, length-set, length-replicate}
use lib.Seq.{get_or-set_same, get_or-set_other, set-set}
use Rattle.moves.specs.Moves.{alone, held_at}

-- what stands past the end counts as 0 too
zeros : (n i : ℕ) → get_or (replicate {A = ℕ} n 0) i 0 ≡ 0
zeros zero i = refl
zeros (suc n) zero = refl
zeros (suc n) (suc i) = zeros n i

pub alone_long : (j x : ℕ) → length (alone j x) ≡ 64
unfolding alone
alone_long j x = length-set (replicate 64 0) j x ∙ length-replicate {A = ℕ} 64 0

pub alone_at : (j x : ℕ) → j < 64 → get_or (alone j x) j 0 ≡ x
unfolding alone
alone_at j x l = get_or-set_same (replicate 64 0) j x 0 (omega (arith, length-replicate {A = ℕ} 64 0))

pub alone_other : (i j x : ℕ) → (i ≡ j → ⊥) → get_or (alone j x) i 0 ≡ 0
unfolding alone
alone_other i j x e = get_or-set_other (replicate 64 0) j i x 0 e ∙ zeros 64 i

pub alone_set : (j x y : ℕ) → set (alone j x) j y ≡ alone j y
unfolding alone
alone_set j x y = set-set (replicate 64 0) j x y

pub alone_held : (j x y : ℕ) → j < 64 → held_at (alone j x) (alone j y) j ≡ x + y
alone_held j x y l = rw (alone_at j x l, alone_at j y l)
