-- What a fill is called on: the columns of a buffer and of a group, what is said of accounts, the filter, the slots asked for and the height.
-- What that is to the rules, in bytes and on numbers; and the columns that the entry leaves. Assumes nothing.
use Rattle.std.specs.Prelude.{◌≡◌, Bool, cond, not, List, [], ◌++◌, map, ℕ, ◌+◌, ◌-◌, ◌*◌, ◌<◌, ◌≤◌, eqb, ltb, length, get_or, take}
use Rattle.rules.specs.World.{World, Skip, Args, Buffer, Group}
use Rattle.renaming.specs.Renaming.{Renaming}
use Rattle.columns.specs.Lists.{tab_i, pick}
use Rattle.columns.specs.Rows.{row_at, rows_of}
use Rattle.message.specs.declared.Filter.{Filter}
use Rattle.message.specs.declared.Message.{Message}
use Rattle.message.specs.Real.{Real, key_of, filter_of}
use Rattle.queues.specs.Cols.{Cols, live, number}
use Rattle.queues.specs.Meant.{message_in, if_marked, buffer_of}
use Rattle.queues.specs.Good as queues
use Rattle.buckets.specs.Cells.{index}
use Rattle.slots.specs.Table.{Table, count}
use Rattle.slots.specs.Meant.{listed, group_of}
use Rattle.slots.specs.Good as slots
use Rattle.moves.specs.declared.Fixed.{Fixed}
use Rattle.moves.specs.Moves.{nowhere}
use Rattle.meaning.specs.Meaning.{Numbers, Setting, order_row, row, slot_at}
use Rattle.entry.specs.Entry.{Sayings, Spoken, numbered_c, housed_c, order_marks, order_costs, group_marks, group_costs, classes_c, owners_c, link_c}
use Rattle.entry_rules.specs.Naming.{num_of, acc_of}

pub record Call : Type 0 where
  pub buffer : Cols
  pub group : Table
  pub said : Sayings
  pub filter : Filter
  pub asked : ℕ
  pub height : ℕ

-- the columns are well formed and have the rows that are spoken of, and the height is not above 16
pub record GoodCall (v : Call) : Type 0 where
  pub buffer : queues.Good v.buffer
  pub group : slots.Good v.group
  pub said : Spoken v.said
  pub height : v.height ≤ 16

-- ---- in bytes

abbrev pub rows : Call → ℕ
rows v = number v.buffer 2

abbrev pub places : Call → ℕ
places v = number v.buffer 3

abbrev pub members : Call → ℕ
members v = count v.group 2

abbrev pub skip_in : Sayings → ℕ → Skip Real
skip_in s i = record { acc = row_at s.names i; skip = not (eqb (get_or s.verdicts i 0) 0); cost = get_or s.costs i 0 }

abbrev pub args : Call → Args Real
args v = record {
  asked = v.asked;
  height = v.height;
  filter = filter_of v.filter;
  rows = tab_i v.said.n 0 (skip_in v.said);
  cost = v.said.cost;
}

abbrev pub set_of : Call → List (List ℕ)
set_of v = rows_of v.said.k v.said.set

-- ---- on numbers

abbrev pub order_accounts : Call → List (List ℕ)
order_accounts v = rows_of (places v) v.buffer.accounts

abbrev pub group_accounts : Call → List (List ℕ)
group_accounts v = rows_of (members v) v.group.accounts

abbrev pub other_accounts : Call → List (List ℕ)
other_accounts v = set_of v ++ rows_of v.said.n v.said.names

abbrev pub num : Call → List ℕ → ℕ
num v = num_of (order_accounts v) (group_accounts v) (other_accounts v)

abbrev pub acc : Call → ℕ → List ℕ
acc v = acc_of (order_accounts v) (group_accounts v) (other_accounts v)

-- rows below 2,048 are the buffer's, those behind them the group's
unfoldable pub message_of : Call → ℕ → Message
message_of v i = cond (ltb i 2048) (message_in (live v.buffer) i) (message_in (listed v.group) (i - 2048))

abbrev pub ext : Call → ℕ → Bool
ext v i = Real.external (message_of v i)

abbrev pub time : Call → ℕ → ℕ
time v i = Real.time (message_of v i)

abbrev pub World' : Call → World
World' v = Numbers (ext v) (time v)

abbrev pub back : (v : Call) → Renaming (World' v) Real
back v = record { acc = acc v; msg = message_of v; key = λ (i : ℕ). key_of (message_of v i) }

abbrev pub skip_num : (v : Call) → ℕ → Skip (World' v)
skip_num v i = record { acc = num v (row_at v.said.names i); skip = not (eqb (get_or v.said.verdicts i 0) 0); cost = get_or v.said.costs i 0 }

abbrev pub args_num : (v : Call) → Args (World' v)
args_num v = record {
  asked = v.asked;
  height = v.height;
  filter = filter_of v.filter;
  rows = tab_i v.said.n 0 (skip_num v);
  cost = v.said.cost;
}

abbrev pub set_num : Call → List ℕ
set_num v = map (num v) (set_of v)

-- the list of the g-th account of the group
abbrev pub entry_list : Call → ℕ → List ℕ
entry_list v g = pick (λ (k : ℕ). 2048 + k) g (count v.group 3) 0 v.group.owner

abbrev pub fixed : Call → Fixed
fixed v = record { rows = rows v; places = places v; height = v.height }

abbrev pub setting : Call → Setting
setting v = record {
  entry_lists = tab_i (members v) 0 (entry_list v);
  entry_skipped = set_num v;
  slots = count v.group 1;
  number = v.group.number;
  last = if_marked (count v.group 7) (count v.group 6);
}

-- of the columns that the entry leaves
abbrev pub buffer_num : (v : Call) → (owner : List ℕ) → Buffer (World' v)
buffer_num v owner = record {
  order = tab_i (places v) 0 (order_row (ext v) (time v) (rows v) owner);
  least = (buffer_of (live v.buffer)).least;
}

abbrev pub group_num : (v : Call) → (home member : List ℕ) → Group (World' v)
group_num v home member = record {
  lists = tab_i (members v) 0 (λ (i : ℕ). row (ext v) (time v) (get_or member i 0) (get_or (setting v).entry_lists i []));
  slots = tab_i (count v.group 1) 0
      (slot_at (ext v) (time v) v.group.number (take (members v) member) home v.group.ints v.group.exts);
  last = (setting v).last;
  index = index v.group.buckets;
}

-- ---- the columns

-- what is lent to the entry: columns of their lengths; no party has a home or a mark yet, each has the cost of an account without a row, and
-- no place has a first row
pub record Lent : Type 0 where
  pub owner : List ℕ
  pub plan : List ℕ
  pub taken : List ℕ
  pub home : List ℕ
  pub member : List ℕ
  pub mark : List ℕ
  pub cost : List ℕ
  pub joined : List ℕ

pub record GoodLent (cost : ℕ) (l : Lent) : Type 0 where
  pub owner : length l.owner ≡ 1024
  pub plan : length l.plan ≡ 2304
  pub taken : length l.taken ≡ 1024
  pub home : length l.home ≡ 1280
  pub member : length l.member ≡ 1280
  pub mark : length l.mark ≡ 1280
  pub cost_long : length l.cost ≡ 1280
  pub joined : length l.joined ≡ 1280
  pub homes : (p : ℕ) → p < 1280 → get_or l.home p 0 ≡ nowhere
  pub marks : (p : ℕ) → p < 1280 → get_or l.mark p 0 ≡ 0
  pub costs : (p : ℕ) → p < 1280 → get_or l.cost p 0 ≡ cost
  pub firsts : (p : ℕ) → p < 256 → get_or l.plan (2048 + p) 0 ≡ 1024

-- what it leaves
abbrev pub owner_made : Call → Lent → List ℕ
owner_made v l = owners_c v.buffer.owner (rows v) l.owner

abbrev pub class_made : Call → Lent → List ℕ
class_made v l = classes_c v.filter v.buffer.kind v.buffer.time (rows v) l.plan

abbrev pub plan_made : Call → Lent → List ℕ
plan_made v l = link_c v.buffer.owner (rows v) (class_made v l)

abbrev pub member_made : Call → Lent → List ℕ
member_made v l = numbered_c v.buffer.accounts (places v) v.group.accounts (members v) l.member

abbrev pub home_made : Call → Lent → List ℕ
home_made v l = housed_c v.group.home (member_made v l) (members v) 0 l.home

abbrev pub mark_made : Call → Lent → List ℕ
mark_made v l = group_marks v.said v.group.accounts (member_made v l) (members v) (order_marks v.said v.buffer.accounts (places v) l.mark)

abbrev pub cost_made : Call → Lent → List ℕ
cost_made v l = group_costs v.said v.group.accounts (member_made v l) (members v) (order_costs v.said v.buffer.accounts (places v) l.cost)
