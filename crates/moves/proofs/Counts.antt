-- How many numbers of a list pass a test after a store, by induction on the list. Assumes nothing.
use mathlib.Core.Path.{◌≡◌}
use mathlib.Core.List.{List, [], ◌∷◌}
use mathlib.Core.Bool.{Bool, true, false}
use Prim.Native.Nat.{ℕ, zero, suc, ◌+◌, ◌<◌, ◌≤◌}
use native.Mathlib.Nat.{not-suc-le-zero, le_of_suc-le-suc}
use native.Mathlib.Omega.{arith}
use lib.ListN.{length, get_or, set}
use Rattle.numbers.proofs.Bytes.{by_bool}
use Rattle.moves.specs.Good.{many}

pub many_set : (h : ℕ → Bool) (l : List ℕ) (p w : ℕ) → p < length l → h (get_or l p 0) ≡ true → h w ≡ false → many h (set l p w) + 1 ≡ many h l
many_set h [] p w l e f = absurd (not-suc-le-zero l)
many_set h (x ∷ xs) zero w l e f = simp (e, f) (omega arith)
many_set h (x ∷ xs) (suc p) w l e f = let r = many_set h xs p w (le_of_suc-le-suc l) e f in by_bool (h x) (λ t. simp t (omega arith))
    (λ t. simp t (omega arith))

pub some_pass : (h : ℕ → Bool) (l : List ℕ) (p : ℕ) → p < length l → h (get_or l p 0) ≡ true → 1 ≤ many h l
some_pass h [] p l e = absurd (not-suc-le-zero l)
some_pass h (x ∷ xs) zero l e = simp e (omega arith)
some_pass h (x ∷ xs) (suc p) l e = let r = some_pass h xs p (le_of_suc-le-suc l) e in omega arith
