-- What one slot more makes of the front of the slots to be opened, and where the first pass stops at a slot that stays empty. Assumes nothing.
use Rattle.std.specs.Prelude.{ℕ, ◌+◌, ◌-◌}
use Rattle.moves.specs.declared.Tally.{Tally}
use Rattle.new_slots.specs.declared.Front.{Front}
use Rattle.new_slots.specs.declared.Passed.{Passed}

abbrev pub further_on : Front → Front
further_on f = record { slot = f.slot + 1; given = f.given + 1; left = f.left - 1 }

-- the number of the slot that was dropped stays given
abbrev pub dropped_at : Front → (at : ℕ) → Tally → Passed
dropped_at f at t = record { at = at; tally = t; slots = f.slot; last = record { 0 = f.given + 1 } }
