-- What the columns of a buffer mean: a store of the rules at the world of real messages. The queue of a place is the rows that it owns, in
-- rising order. Assumes nothing.
use Rattle.std.specs.Prelude.{List, ℕ, zero, suc}
use Rattle.std.proofs.Math.Option.{Option, none, some}
use Rattle.columns.specs.Lists.{tab_i, pick}
use Rattle.columns.specs.Rows.{row_at}
use Rattle.rules.specs.World.{Row, Buffer}
use Rattle.rules.specs.Calls.{Store}
use Rattle.message.specs.declared.Message.{Message}
use Rattle.message.specs.Real.{Real}
use Rattle.records.specs.Records.{message_at}
use Rattle.queues.specs.Cols.{Cols, Half, live, kept, number}

-- the message in row i
abbrev pub message_in : Half → ℕ → Message
message_in h = message_at h.kind h.form h.time h.address h.hash

-- the account at place p with its queue
abbrev pub row_in : Half → ℕ → Row Real
row_in h p = record { acc = row_at h.accounts p; msgs = pick (message_in h) p h.messages 0 h.owner }

-- a mark of 0 says that there is none
abbrev pub if_marked : {X : Type 0} → ℕ → X → Option X
if_marked zero x = none
if_marked (suc n) x = some x

unfoldable pub order_of : Half → List (Row Real)
order_of h = tab_i h.places 0 (row_in h)

abbrev pub buffer_of : Half → Buffer Real
buffer_of h = record { order = order_of h; least = if_marked h.marked h.least }

abbrev pub meant : Cols → Store Real
meant c = record {
  M = number c 0;
  A = number c 1;
  now = buffer_of (live c);
  kept = if_marked (number c 8) (buffer_of (kept c));
}
