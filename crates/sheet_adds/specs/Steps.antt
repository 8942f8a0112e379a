-- What each step of answering a sheet leaves: well formed values that mean what the rules say, and the lines behind those that stood there.
-- Assumes nothing.
use Rattle.std.specs.Prelude.{◌≡◌, List, ℕ}
use Rattle.queues.specs.Meant as queues
use Rattle.slots.specs.Meant as slots
use Rattle.display.specs.Pieces.{Puts}
use Rattle.lintelsong.specs.Closed.{cols_of, table_of, accounts_in, GoodBuffer, GoodGroup, GoodSet}
use Rattle.sheet_rows.specs.Answer.{Held, Told}
use Rattle.sheet_adds.specs.declared.State.{State}
use Rattle.sheet_adds.specs.declared.Reached.{Reached}

abbrev pub meant_by : State → Held
meant_by s = record { store = queues.meant (cols_of s.buffer); target = slots.meant (table_of s.group); skipped = accounts_in s.skipped }

abbrev pub GoodState : State → Type 0
GoodState s = GoodBuffer s.buffer × GoodGroup s.group × GoodSet s.skipped

-- a part of the sheet is done: what it leaves, and its lines, of at most `most` bytes, behind the first `at` bytes
pub record Tells (t : Told) (most at : ℕ) (out after : List ℕ) (r : Reached) : Type 0 where
  pub good : GoodState r.state
  pub held : meant_by r.state ≡ t.held
  pub put : Puts t.text most at out after r.at
