-- A column after a copy, a clearing or a packing, as one expression over the column before. Assumes nothing.
use Rattle.std.specs.Prelude.{◌≡◌, Bool, List, ◌++◌, ℕ, ◌+◌, ◌-◌, ltb, length, get_or, take, drop, replicate}
use Rattle.columns.specs.Lists.{gather, rank}

-- an owner that is a place in the account order, of 256 at most; the marks of messages that are gone lie above
abbrev pub is_place : ℕ → Bool
is_place owner = ltb owner 256

-- message i is held
unfoldable pub held : List ℕ → ℕ → Bool
held owners i = is_place (get_or owners i 0)

module _ {A : Type 0} where
  -- xs laid over ys from place n on
  unfoldable pub laid_at : ℕ → List A → List A → List A
  laid_at n xs ys = take n ys ++ (xs ++ drop (n + length xs) ys)

  -- the kept among the first n moved to the front in order, the freed cells hold d, the rest stays
  unfoldable pub packed : A → (ℕ → Bool) → ℕ → List A → List A
  packed d t n xs = gather t (λ j. get_or xs j d) n 0 ++ (replicate (n - rank t n) d ++ drop n xs)

-- what a packing leaves: how many were kept, and the column
pub record Packs {A : Type 0} (t : ℕ → Bool) (n : ℕ) (made : List A) (col : List A) (r : ℕ) : Type 0 where
  pub count : r ≡ rank t n
  pub cells : col ≡ made
