-- What a fill answers, of the counts that its run ended with, and what stands in numbers of a fill. Assumes nothing.
use Rattle.std.specs.Prelude.{cond, List, [], ◌∷◌, ℕ, eqb}
use Rattle.message.specs.Answers.{Code}
use Rattle.message.specs.declared.Filter.{Filter}
use Rattle.message.specs.declared.Filter.TheVariants.{Off, Below}
use Rattle.moves.specs.declared.Tally.{Tally}
use Rattle.fill_answer.specs.declared.Answer.{Answer}

abbrev pub answered : Code → Tally → (dropped : ℕ) → Answer
answered code t dropped = record { code = code; collected = t.taken; operations = t.ops; dropped = dropped }

abbrev pub counts_in : Answer → List ℕ
counts_in a = a.collected ∷ a.operations ∷ a.dropped ∷ []

-- a filter by two numbers: off if the first is 0, else below the second
abbrev pub filter_by : (filtered below : ℕ) → Filter
filter_by filtered below = cond (eqb filtered 0) Off (Below below)
