-- A whole fill on columns: what it is called on, what it answers and leaves, and what the rules say of it. Assumes nothing.
use Rattle.std.specs.Prelude.{◌≡◌, List, [], ℕ, ◌+◌, ◌*◌, ◌≤◌, length, drop}
use Rattle.rules.specs.Calls.{FillAnswer, fill_group}
use Rattle.rules.specs.Demand.{Demand3}
use Rattle.rules.specs.Fill.{Filled}
use Rattle.message.specs.declared.Filter.{Filter}
use Rattle.message.specs.Answers.{Code, number as number_of}
use Rattle.message.specs.Real.{Real}
use Rattle.columns.specs.Rows.{rows_of}
use Rattle.queues.specs.Cols.{Cols, live, number}
use Rattle.queues.specs.Meant.{buffer_of}
use Rattle.queues.specs.Meant as queues
use Rattle.queues.specs.Good as buffers
use Rattle.slots.specs.Table.{Table, count}
use Rattle.slots.specs.Meant.{group_of}
use Rattle.slots.specs.Meant as slots
use Rattle.slots.specs.Good as groups
use Rattle.skipped.specs.Sets.{GoodRows}
use Rattle.entry.specs.Entry.{sayings}
use Rattle.entry_rules.specs.Calling.{Call, args, set_of}
use Rattle.settle_rules.specs.Facts.{keys_of}
use Rattle.limits.specs.Limits.{rows_in, key_rows, skips_in}
use Rattle.refusals.specs.Refusals.{code_c}
use Rattle.settle_rules.specs.Settling.{Settled}
use Rattle.fill_rules.specs.Passing.{opens_of, ran_of}

-- what a fill is called on; "rows" of three lent columns are as many as all three have
abbrev pub call_of : Cols → Table → (set : List ℕ) (held asked height : ℕ) → Filter → (names verdicts costs : List ℕ) (default : ℕ) → Call
call_of c t set held asked height f names verdicts costs default = record {
  buffer = c;
  group = t;
  said = sayings set held names verdicts costs (rows_in (length names) (length verdicts) (length costs)) default;
  filter = f;
  asked = asked;
  height = height;
}

-- the key list that is lent
pub record Keys : Type 0 where
  pub lts : List ℕ
  pub hashes : List ℕ

abbrev pub keys : (lts hashes : List ℕ) → Keys
keys lts hashes = record { lts = lts; hashes = hashes }

abbrev pub rows_of_keys : Keys → ℕ
rows_of_keys k = key_rows (length k.lts) (length k.hashes)

-- what a fill answers
pub record Says : Type 0 where
  pub code : Code
  pub collected : ℕ
  pub operations : ℕ
  pub dropped : ℕ

abbrev pub says : Code → (collected operations dropped : ℕ) → Says
says code collected operations dropped = record { code = code; collected = collected; operations = operations; dropped = dropped }

-- what it leaves
pub record Left : Type 0 where
  pub buffer : Cols
  pub group : Table
  pub set : List ℕ
  pub held : ℕ
  pub keys : Keys

abbrev pub left : Cols → Table → (set : List ℕ) (held : ℕ) → Keys → Left
left c t set held k = record { buffer = c; group = t; set = set; held = held; keys = k }

abbrev pub code_of : Call → Keys → Code
code_of v k = code_c v.asked v.height (rows_of_keys k) v.said.n v.said.verdicts v.said.k v.buffer.numbers v.group.number v.group.ints v.group.exts v.group.buckets v.group.numbers

-- what a code of 0 says of the numbers: all that the fill makes has room
pub record Accepted (v : Call) (k : Keys) : Type 0 where
  pub asked_fits : v.asked ≤ count v.group 0
  pub height_fits : v.height ≤ 16
  pub keys_fit : number v.buffer 4 ≤ rows_of_keys k
  pub rows_fit : v.said.n ≤ 256
  pub set_fits : v.said.k + skips_in v.said.n v.said.verdicts ≤ 512
  pub slots_fit : count v.group 1 + opens_of v ≤ 64
  pub last_fits : count v.group 6 + opens_of v ≤ 65535

-- the answer and all that was lent, as the rules have them; r key rows
abbrev pub answer_of : (r : ℕ) → Says → Left → FillAnswer Real
answer_of r a z = record {
  code = number_of a.code;
  collected = a.collected;
  ops = a.operations;
  dropped = a.dropped;
  keys = keys_of r z.keys.lts z.keys.hashes;
  store = queues.meant z.buffer;
  target = slots.meant z.group;
  skipped = rows_of z.held z.set;
}

abbrev pub filled_of : (r : ℕ) → Says → Left → Filled Real
filled_of r a z = record {
  code = number_of a.code;
  collected = a.collected;
  ops = a.operations;
  dropped = a.dropped;
  keys = keys_of r z.keys.lts z.keys.hashes;
  buffer = buffer_of (live z.buffer);
  group = group_of z.group;
  skipped = rows_of z.held z.set;
}

-- "A refusal returns its code, with zero counts .., and all state and lent memory stay"
pub record Stays (v : Call) (k : Keys) (a : Says) (z : Left) : Type 0 where
  pub counts : (a.collected ≡ 0) × (a.operations ≡ 0) × (a.dropped ≡ 0)
  pub state : (z.buffer ≡ v.buffer) × (z.group ≡ v.group) × (z.set ≡ v.said.set) × (z.held ≡ v.said.k)
  pub lent : z.keys ≡ k

-- a fill that is taken leaves exactly these columns
pub record Takes (v : Call) (k : Keys) (a : Says) (z : Left) : Type 0 where
  pub collected : a.collected ≡ (ran_of v).now.store.tally.taken
  pub operations : a.operations ≡ (ran_of v).now.store.tally.ops
  pub dropped : a.dropped ≡ (ran_of v).dropped
  pub left : Settled v.buffer z.buffer v.group z.group (ran_of v) (opens_of v) v.said.set z.set v.said.k z.held k.lts z.keys.lts k.hashes z.keys.hashes

pub record Exactly (v : Call) (k : Keys) (a : Says) (z : Left) : Type 0 where
  pub code : a.code ≡ code_of v k
  pub refused : (number_of a.code ≡ 0 → ⊥) → Stays v k a z
  pub taken : number_of a.code ≡ 0 → Takes v k a z

-- ---- the contract

pub record Fills (v : Call) (k : Keys) (a : Says) (z : Left) : Type 0 where
  -- what it leaves is well formed
  pub good : buffers.Good z.buffer × groups.Good z.group × GoodRows z.held z.set
  -- the answer and all that was lent are the rule's
  pub ruled : answer_of (rows_of_keys k) a z ≡ fill_group Real (args v) (keys_of (rows_of_keys k) k.lts k.hashes) (queues.meant v.buffer) (slots.meant v.group) (set_of v)
  -- what is lent past the key rows stays
  pub past : (drop (rows_of_keys k) z.keys.lts ≡ drop (rows_of_keys k) k.lts) × (drop (32 * rows_of_keys k) z.keys.hashes ≡ drop (32 * rows_of_keys k) k.hashes)
  -- demand 3, in the user's words, of these very values, with nobody left over
  pub demand3 : number_of a.code ≡ 0 → 1 ≤ v.height
      → Demand3 Real (args v) (buffer_of (live v.buffer)) (group_of v.group) (set_of v) (filled_of (rows_of_keys k) a z) []
  -- and the columns are these
  pub exactly : Exactly v k a z
