-- What is read off a buffer of the rules, as the values that a read gives; the public contracts cite it. Assumes nothing.
use Rattle.std.specs.Prelude.{ℕ, length}
use Rattle.rules.specs.World as world
use Rattle.rules.specs.Queues.{all_msgs, held_ints, held_exts, held_accounts, full_by_count, full_by_slots}
use Rattle.rules.specs.Calls.{Store}
use Rattle.message.specs.Real.{Real}
use Rattle.buffer_reads.specs.declared.Counts.{Counts}
use Rattle.buffer_reads.specs.declared.Filled.{Filled}

abbrev pub counts_of : Store Real → Counts
counts_of s = record {
  capacity = s.M;
  places = s.A;
  messages = length (all_msgs Real s.now.order);
  accounts = held_accounts Real s.now;
  ints = held_ints Real s.now;
  exts = held_exts Real s.now;
}

-- "Full by count: messages held ≥ max_count. By slots the answer is always CanNotFill."
abbrev pub filled_by : ℕ → world.Buffer Real → Filled
filled_by limit b = record { count = full_by_count Real limit b; slots = full_by_slots }
