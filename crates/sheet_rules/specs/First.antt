-- When a text begins as the text of a sheet does, and how far: what "the first broken, missing or extra line" is told by. Assumes nothing.
use Rattle.std.specs.Prelude.{◌≡◌, cond, List, [], ◌∷◌, ◌++◌, ℕ, ◌+◌, eqb}
use Rattle.sheet_rules.specs.Sheet.{Sheet, Fits, text_of}

-- how many line ends a text has
unfoldable pub line_ends : List ℕ → ℕ
line_ends [] = 0
line_ends (b ∷ bs) = cond (eqb b 10) 1 0 + line_ends bs

-- the text begins as that of a sheet in its ranges does, with n line ends in what they share
pub record Alike (text : List ℕ) (n : ℕ) : Type 0 where
  pub it : Sheet
  pub fits : Fits it
  pub shared : List ℕ
  pub rest : List ℕ
  pub other : List ℕ
  pub mine : text ≡ shared ++ rest
  pub its : text_of it ≡ shared ++ other
  pub many : line_ends shared ≡ n
