-- What is read off a group of the rules, as the values that a read gives; the public contracts cite it. Assumes nothing.
use Rattle.std.specs.Prelude.{◌≡◌, List, [], ℕ, Option, None, Some, length}
use Rattle.std.proofs.Math.Option as rules
use Rattle.std.proofs.Math.Option.{none, some}
use Rattle.numbers.specs.declared.SlotId.{SlotId}
use Rattle.rules.specs.World as world
use Rattle.rules.specs.Queues.{all_msgs}
use Rattle.rules.specs.Fill.{group_ints, group_exts, group_accounts, group_slots}
use Rattle.rules.specs.Calls.{Target}
use Rattle.message.specs.Real.{Real}
use Rattle.display.specs.Line.{line_of, written}
use Rattle.group_reads.specs.declared.Counts.{Counts}
use Rattle.group_reads.specs.declared.SeenSlot.{SeenSlot}

abbrev pub counts_of : Target Real → Counts
counts_of t = record {
  capacity = t.S;
  slots = group_slots Real t.now;
  accounts = group_accounts Real t.now;
  messages = length (all_msgs Real t.now.lists);
  ints = group_ints Real t.now;
  exts = group_exts Real t.now;
}

abbrev pub id_of : ℕ → SlotId
id_of n = record { 0 = n }

abbrev pub seen_id : rules.Option ℕ → Option SlotId
seen_id none = None
seen_id (some n) = Some (id_of n)

abbrev pub seen_slot : rules.Option (world.Slot Real) → Option SeenSlot
seen_slot none = None
seen_slot (some s) = Some (record { id = id_of s.number; ints = s.ints; exts = s.exts })

abbrev pub accounts_at : rules.Option (world.Slot Real) → List (List ℕ)
accounts_at none = []
accounts_at (some s) = s.accounts

-- the Display line of what a group holds
abbrev pub line_for : Counts → List ℕ
line_for c = line_of c.ints c.exts c.accounts c.slots

pub record Displays (t : Target Real) (out₀ out : List ℕ) (r : ℕ) : Type 0 where
  pub long : r ≡ length (line_for (counts_of t))
  pub bytes : out ≡ written (line_for (counts_of t)) out₀
