-- What a group holds, read off lent columns. `ns` are the sixteen numbers. Assumes nothing.
use Rattle.std.specs.Prelude.{Bool, ◌&&◌, List, ℕ, Option, eqb, leb, take, get_or}
use Rattle.rules.specs.World.{is_nil, joined}
use Rattle.buckets.specs.Cells.{index}
use Rattle.group_reads.specs.declared.Counts.{Counts}
use Rattle.numbers.specs.declared.SlotId.{SlotId}
use Rattle.queues.specs.Meant.{if_marked}
use Rattle.group_reads.specs.Shown.{seen_id}

abbrev pub counts_in : List ℕ → Counts
counts_in ns = record {
  capacity = get_or ns 0 0;
  slots = get_or ns 1 0;
  accounts = get_or ns 2 0;
  messages = get_or ns 3 0;
  ints = get_or ns 4 0;
  exts = get_or ns 5 0;
}

abbrev pub empty_in : List ℕ → Bool
empty_in ns = eqb (get_or ns 1 0) 0

-- whether there are as many slots as asked for, and every bucket below the height is empty
abbrev pub filled_in : (cells ns : List ℕ) (asked height : ℕ) → Bool
filled_in cells ns asked height = leb asked (get_or ns 1 0) && is_nil (joined (take height (index cells)))

-- the number beside a mark, if it is set
abbrev pub last_in : List ℕ → Option SlotId
last_in ns = seen_id (if_marked (get_or ns 7 0) (get_or ns 6 0))
