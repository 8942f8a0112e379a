-- Rows of bytes, such as accounts and hashes: how two are told apart, and the row that stands for none. Assumes nothing.
use Rattle.std.specs.Prelude.{ℕ, Bool, true, false, ◌&&◌, List, [], ◌∷◌, replicate, ◌==◌}

-- the same numbers in the same order
unfoldable pub eq_l : List ℕ → List ℕ → Bool
eq_l [] [] = true
eq_l [] (y ∷ ys) = false
eq_l (x ∷ xs) [] = false
eq_l (x ∷ xs) (y ∷ ys) = x == y && eq_l xs ys

-- "32 zero bytes"
unfoldable pub zeros : List ℕ
zeros = replicate 32 0
