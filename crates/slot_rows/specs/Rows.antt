-- A table of slot records, and the columns that it holds. Assumes nothing.
use Rattle.std.specs.Prelude.{List, map, ℕ}
use Rattle.moves.specs.declared.Slot.{Slot}

-- the slot that stands past the end
abbrev pub no_slot : Slot
no_slot = record { ints = 0; exts = 0 }

-- the internals of each slot, by position
unfoldable pub ints_of : List Slot → List ℕ
ints_of t = map (λ (s : Slot). s.ints) t

-- the externals of each slot, by position
unfoldable pub exts_of : List Slot → List ℕ
exts_of t = map (λ (s : Slot). s.exts) t
