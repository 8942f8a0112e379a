-- A group's columns count at most 16 messages a slot, and no more accounts than messages. Assumes nothing.
use mathlib.Core.Path.{◌≡◌}
use Prim.Native.Nat.{◌*◌, ◌≤◌}
use native.Mathlib.Omega.{arith}
use lib.ListN.{length}
use Rattle.columns.proofs.Tabs.{length_tab}
use Rattle.rules.specs.Queues.{all_msgs}
use Rattle.demands.proofs.RoomFill.{few_messages, few_accounts}
use Rattle.message.specs.Real.{Real}
use Rattle.queues.specs.Meant.{order_of, row_in}
use Rattle.queues.proofs.Counts.{all_counted}
use Rattle.slots.specs.Table as table
use Rattle.slots.specs.Table.{Table}
use Rattle.slots.specs.Meant.{listed, group_of}
use Rattle.slots.specs.Good.{Good}
use Rattle.group_rules.proofs.JoinCode.{slots_many}

module _ (t : Table) (g : Good t) where
  pub messages_held : length (all_msgs Real (order_of (listed t))) ≡ table.count t 3
  messages_held = all_counted (listed t) (omega (arith, g.messages, g.lengths.owner)) g.placed

  pub messages_few : table.count t 3 ≤ 16 * table.count t 1
  messages_few = omega (arith, messages_held, few_messages Real (group_of t) g.tidy, slots_many t)

  pub accounts_held : length (order_of (listed t)) ≡ table.count t 2
  unfolding order_of
  accounts_held = length_tab (table.count t 2) 0 (row_in (listed t))

  pub accounts_few : table.count t 2 ≤ table.count t 3
  accounts_few = omega (arith, accounts_held, messages_held, few_accounts Real (order_of (listed t)) g.tidy.tidy.nonempty)
