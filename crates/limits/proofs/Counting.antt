-- The rows that say skip, counted (`counted`), and what a test of the sizes that fails says. Assumes nothing.
use mathlib.Core.Path.{◌≡◌, refl, ap, ◌∙◌}
use mathlib.Core.Bool.{Bool, false, cond, not}
use mathlib.Core.List.{List, [], ◌∷◌}
use Prim.Native.Nat.{ℕ, zero, suc, ◌+◌, ◌≤◌}
use native.Mathlib.Omega.{arith}
use lib.Dec.{eqb, ltb}
use lib.ListN.{length, take}
use lib.Seq.{length-take-le}
use borrow.Author.Tests.{ltb-false}
use Rattle.std.specs.Prelude.{count_by}
use Rattle.std.proofs.lemmas.List.Sums.{sum_by-cons, count_by-le-length}
use Rattle.columns.specs.Lists.{count_i}
use Rattle.demands.proofs.Rows.{or_false}
use Rattle.limits.specs.Limits.{too_large, skips_in}

-- ---- the rows that say skip

abbrev says : ℕ → ℕ → Bool
says i v = not (eqb v 0)

-- counted with their places, as counted without
counted_from : (n i : ℕ) (verdicts : List ℕ) → n ≤ length verdicts → count_by (λ v. not (eqb v 0)) (take n verdicts) ≡ count_i says n i verdicts
unfolding count_i
counted_from zero i verdicts h = refl
counted_from (suc n) i [] h = absurd (omega (arith, h))
counted_from (suc n) i (v ∷ vs) h =
    sum_by-cons (λ x. cond (says i x) 1 0) v (take n vs) ∙ ap (λ (k : ℕ). cond (says i v) 1 0 + k) (counted_from n (i + 1) vs (omega (arith, h)))

-- no more than there are
pub counted_few : (n : ℕ) (verdicts : List ℕ) → n ≤ length verdicts → count_by (λ v. not (eqb v 0)) (take n verdicts) ≤ n
counted_few n verdicts h =
    omega (arith, count_by-le-length (λ v. not (eqb v 0)) (take n verdicts), length-take-le n verdicts h)

pub counted : (n : ℕ) (verdicts : List ℕ) → n ≤ length verdicts → count_by (λ v. not (eqb v 0)) (take n verdicts) ≡ skips_in n verdicts
counted n verdicts h = counted_from n 0 verdicts h

-- what a test that fails says
pub not_large : (asked height most : ℕ) → too_large asked height most ≡ false → (asked ≤ most) × (height ≤ 16)
unfolding too_large
not_large asked height most e =
    let p = or_false (ltb most asked) (ltb 16 height) e in
    (ltb-false most asked p.0, ltb-false 16 height p.1)
