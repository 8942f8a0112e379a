-- What a join of lent columns gives, with its code as a number. Assumes nothing.
use Rattle.std.specs.Prelude.{◌≡◌, ℕ}
use Rattle.message.specs.Answers.{Code, number as number_of}
use Rattle.slots.specs.Table.{Table}
use Rattle.merging.specs.Merges.{Merges}

-- with some code, whose number is answered: both groups well formed, the rule's code and meaning, and exactly these columns
abbrev pub Joins : (l r : Table) (n : ℕ) (l' r' : Table) → Type 0
Joins l r n l' r' = (code : Code) × (n ≡ number_of code) × Merges l r code l' r'
