-- What the columns of a group mean: a group of the rules at the world of real messages. An account's list is the rows that it owns, a slot's
-- accounts are those whose home it is, both in rising order. Assumes nothing.
use Rattle.std.specs.Prelude.{List, ℕ, get_or}
use Rattle.columns.specs.Lists.{tab_i, pick}
use Rattle.columns.specs.Rows.{row_at}
use Rattle.rules.specs.World.{Row, Slot, Group}
use Rattle.rules.specs.Calls.{Target}
use Rattle.message.specs.Real.{Real}
use Rattle.queues.specs.Cols.{Half}
use Rattle.queues.specs.Meant.{if_marked, order_of}
use Rattle.buckets.specs.Cells.{index}
use Rattle.slots.specs.Table.{Table, count}

-- the accounts with their lists, as a half of a buffer has its accounts with their queues
abbrev pub listed : Table → Half
listed t = record {
  owner = t.owner;
  kind = t.kind;
  form = t.form;
  time = t.time;
  address = t.address;
  hash = t.hash;
  accounts = t.accounts;
  messages = count t 3;
  places = count t 2;
  ints = count t 4;
  exts = count t 5;
  least = 0;
  marked = 0;
}

-- the slot at position s
abbrev pub slot_in : Table → ℕ → Slot Real
slot_in t s = record {
  number = get_or t.number s 0;
  accounts = pick (row_at t.accounts) s (count t 2) 0 t.home;
  ints = get_or t.ints s 0;
  exts = get_or t.exts s 0;
}

unfoldable pub slots_of : Table → List (Slot Real)
slots_of t = tab_i (count t 1) 0 (slot_in t)

abbrev pub group_of : Table → Group Real
group_of t = record {
  lists = order_of (listed t);
  slots = slots_of t;
  last = if_marked (count t 7) (count t 6);
  index = index t.buckets;
}

abbrev pub meant : Table → Target Real
meant t = record { S = count t 0; now = group_of t }
