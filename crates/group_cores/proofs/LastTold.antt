-- What is told of the last slot number, of a mark m and the number n beside it. Assumes nothing.
use mathlib.Core.Path.{◌≡◌, refl, ap, ◌∙◌}
use mathlib.Core.Bool.{not}
use mathlib.Core.List.{List, [], ◌∷◌}
use Prim.Native.Nat.{ℕ, zero, suc}
use native.Mathlib.Omega.{arith}
use lib.Dec.{eqb}
use borrow.Author.Tests.{ne_eqb}
use Rattle.std.specs.Prelude.{is_some}
use Rattle.queues.specs.Meant.{if_marked}
use Rattle.export_parts.specs.Parts.{bit}
use Rattle.group_reads.specs.Shown.{seen_id}
use Rattle.group_parts.specs.Told.{ToldId}

-- there is a last number where the mark is set
pub last_marked : (m n : ℕ) → is_some (seen_id (if_marked m n)) ≡ not (eqb m 0)
last_marked zero n = refl
last_marked (suc m) n = rw (ne_eqb (suc m) 0 (λ e. omega arith))

-- where the number is 0 without the mark, what is told is the last number
pub last_told : (m n : ℕ) {r : ℕ} {out : List ℕ} → (m ≡ 0 → n ≡ 0) → r ≡ bit (not (eqb m 0)) → out ≡ n ∷ [] → ToldId r out (seen_id (if_marked m n))
last_told zero n z p q = record { found = p; id = q ∙ ap (λ k. k ∷ []) (z refl) }
last_told (suc m) n z p q = record { found = p ∙ rw (ne_eqb (suc m) 0 (λ e. omega arith)) refl; id = q }
