-- A fill with its answer in numbers: the code by its number; how many messages it collected, its operations, and how many it dropped.
-- Assumes nothing.
use Rattle.std.specs.Prelude.{◌≡◌, List, [], ◌∷◌, ℕ}
use Rattle.message.specs.Answers.{number as number_of}
use Rattle.entry_rules.specs.Calling.{Call}
use Rattle.fill_rules.specs.Fills.{Keys, Says, Left, Fills}

-- what is answered is said by these numbers, and the fill is that of the rules
pub record FillsBy (v : Call) (k : Keys) (r : ℕ) (out : List ℕ) (z : Left) : Type 0 where
  pub answer : Says
  pub code : r ≡ number_of answer.code
  pub counts : out ≡ answer.collected ∷ answer.operations ∷ answer.dropped ∷ []
  pub fills : Fills v k answer z
