-- What a buffer holds, read off its lent numbers. Assumes nothing.
use Rattle.std.specs.Prelude.{Bool, false, not, List, ℕ, eqb, leb, get_or}
use Rattle.rules.specs.World.{least_read}
use Rattle.queues.specs.Meant.{if_marked}
use Rattle.buffer_reads.specs.declared.Counts.{Counts}
use Rattle.buffer_reads.specs.declared.Filled.{Filled}

abbrev pub counts_in : List ℕ → Counts
counts_in ns = record {
  capacity = get_or ns 0 0;
  places = get_or ns 1 0;
  messages = get_or ns 2 0;
  accounts = get_or ns 3 0;
  ints = get_or ns 4 0;
  exts = get_or ns 5 0;
}

-- whether number k is a set mark
abbrev pub marked : List ℕ → ℕ → Bool
marked ns k = not (eqb (get_or ns k 0) 0)

-- the minimum chain time, with its mark
abbrev pub lowest_in : List ℕ → ℕ
lowest_in ns = least_read (if_marked (get_or ns 7 0) (get_or ns 6 0))

-- by count, at least as many messages as the limit; by slots, never
abbrev pub filled_in : List ℕ → ℕ → Filled
filled_in ns limit = record { count = leb limit (get_or ns 2 0); slots = false }
