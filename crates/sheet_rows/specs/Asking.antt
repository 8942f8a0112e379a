-- What a fill is asked for, beside its skip rows. Assumes nothing.
use Rattle.std.specs.Prelude.{◌≡◌, List, ℕ}
use Rattle.rules.specs.World.{Skip, Args}
use Rattle.message.specs.Real.{Real, filter_of}
use Rattle.fill_answer.specs.declared.Asked.{Asked}
use Rattle.sheet_rows.specs.Answer.{args_at}

-- the arguments of a fill, whatever its skip rows are
abbrev pub args_of : List (Skip Real) → Asked → Args Real
args_of rows a = record { asked = a.slots; height = a.height; filter = filter_of a.filter; rows = rows; cost = a.cost }

-- row i of a table of cells is what is asked for
abbrev pub Asks : (cells : List ℕ) (i : ℕ) → Asked → Type 0
Asks cells i a = (rows : List (Skip Real)) → args_of rows a ≡ args_at rows cells i
