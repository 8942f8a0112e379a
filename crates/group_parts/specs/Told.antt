-- Answers of a group in numbers: counts, a slot number, a slot. Assumes nothing.
use Rattle.std.specs.Prelude.{◌≡◌, List, [], ◌∷◌, ℕ, Option, is_some, unwrap_or}
use Rattle.numbers.specs.declared.SlotId.{SlotId}
use Rattle.export_parts.specs.Parts.{bit}
use Rattle.group_reads.specs.declared.Counts.{Counts}
use Rattle.group_reads.specs.declared.SeenSlot.{SeenSlot}
use Rattle.group_reads.specs.Shown.{id_of}

-- the counts in their order
abbrev pub listed : Counts → List ℕ
listed k = k.capacity ∷ k.slots ∷ k.accounts ∷ k.messages ∷ k.ints ∷ k.exts ∷ []

-- a slot number is told: whether there is one, and which; 0 if there is none
pub record ToldId (r : ℕ) (out : List ℕ) (s : Option SlotId) : Type 0 where
  pub found : r ≡ bit (is_some s)
  pub id : out ≡ (unwrap_or s (id_of 0)).0 ∷ []

-- the numbers of a slot
abbrev pub slot_numbers : SeenSlot → List ℕ
slot_numbers s = s.id.0 ∷ s.ints ∷ s.exts ∷ []

-- a slot is told: whether there is one, its number and its counts; zeros if there is none
pub record ToldSlot (r : ℕ) (out : List ℕ) (s : Option SeenSlot) : Type 0 where
  pub found : r ≡ bit (is_some s)
  pub slot : out ≡ slot_numbers (unwrap_or s (record { id = id_of 0; ints = 0; exts = 0 }))
