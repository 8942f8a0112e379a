-- Entry and passes of a fill on columns as one expression, and what is known of what they leave. Assumes nothing.
use Rattle.std.specs.Prelude.{◌≡◌, List, ℕ, ◌+◌, ◌-◌, ◌<◌, ◌≤◌, length, get_or, replicate}
use Rattle.rules.specs.World.{at_least0}
use Rattle.message.specs.declared.Filter.{Filter}
use Rattle.slots.specs.Table.{count}
use Rattle.moves.specs.declared.Fixed.{Fixed}
use Rattle.moves.specs.declared.Tally.{Tally}
use Rattle.moves.specs.Moves.{nowhere}
use Rattle.meaning.specs.Meaning.{Columns}
use Rattle.meaning.specs.Passes.{RanC}
use Rattle.meaning.specs.Means.{Ran}
use Rattle.entry.specs.Entry.{Sayings}
use Rattle.works.specs.Begin.{Accounts, Held, Slots, accounts, held, slots, Fit, begin_w}
use Rattle.works.specs.Run.{MayRun, run_w}
use Rattle.works.specs.Works.{columns_w}
use Rattle.works.specs.declared.Work.{Work}
use Rattle.entry_rules.specs.Calling.{Call, GoodCall, Lent, rows, places, members, ext, time, back, args_num, set_num, buffer_num, group_num, fixed, setting, owner_made, home_made, member_made, cost_made}
use Rattle.settle_rules.specs.Facts.{EntryFacts, Traced, BlankFrom, OpensAtMost}

-- ---- the parts, of what is lent

abbrev pub fixed_by : Accounts → Held → (height : ℕ) → Fixed
fixed_by a h height = record { rows = h.n; places = a.places; height = height }

-- nothing joined, taken or spent yet
abbrev pub tally_by : Accounts → Tally
tally_by a = record { joined = 0; accounts = a.members; taken = 0; ops = 0 }

pub record MayPass (a : Accounts) (h : Held) (b : Slots) (s : Sayings) (f : Filter) (height opens slots last : ℕ) : Type 0 where
  pub fits : Fit a h b s height
  pub runs : MayRun (begin_w a h b s f height) (fixed_by a h height) opens slots last (tally_by a)

-- what the passes leave of the columns that the entry makes
abbrev pub pass_w : Accounts → Held → Slots → Sayings → Filter → (height opens slots last : ℕ) → RanC
pass_w a h b s f height opens slots last = run_w (begin_w a h b s f height) (fixed_by a h height) opens slots last (tally_by a)

-- ---- the same of a call

abbrev pub accounts_of : Call → Accounts
accounts_of v = accounts v.buffer.accounts (places v) v.group.accounts v.group.home (members v)

abbrev pub held_of : Call → Held
held_of v = held v.buffer.owner v.buffer.kind v.buffer.time (rows v)

abbrev pub slots_of : Call → Slots
slots_of v = slots v.group.ints v.group.exts v.group.number v.group.buckets

abbrev pub opens_of : Call → ℕ
opens_of v = v.asked - count v.group 1

abbrev pub begin_of : Call → Work
begin_of v = begin_w (accounts_of v) (held_of v) (slots_of v) v.said v.filter v.height

abbrev pub start_of : Call → Columns
start_of v = columns_w (begin_of v) (tally_by (accounts_of v))

abbrev pub ran_of : Call → RanC
ran_of v = pass_w (accounts_of v) (held_of v) (slots_of v) v.said v.filter v.height (opens_of v) (count v.group 1) (count v.group 6)

-- what the entry is lent: fresh columns
abbrev pub lent_of : Call → Lent
lent_of v = record {
  owner = replicate 1024 0;
  plan = replicate 2304 1024;
  taken = replicate 1024 0;
  home = replicate 1280 nowhere;
  member = replicate 1280 0;
  mark = replicate 1280 0;
  cost = replicate 1280 v.said.cost;
  joined = replicate 1280 0;
}

-- ---- what is known of x, which a run leaves: it means what the rules' passes make on numbers; what stood stays; nothing stands behind the slots

pub record Passed (v : Call) (x : RanC) : Type 0 where
  pub ran : Ran (ext v) (time v) (args_num v) (cost_made v (lent_of v)) (fixed v) (setting v) (opens_of v) (buffer_num v (owner_made v (lent_of v))) (group_num v (home_made v (lent_of v)) (member_made v (lent_of v))) (set_num v) x
  pub entry : EntryFacts (ext v) (time v) (back v) (fixed v) v.buffer v.group (setting v) (start_of v)
  pub traced : Traced (fixed v) (start_of v) x.now
  pub blank : BlankFrom x.slots x.now x.number
  pub opens : OpensAtMost (opens_of v) (count v.group 1) (count v.group 6) x.slots x.last x.number
  pub numbers_stay : (j : ℕ) → j < count v.group 1 → get_or x.number j 0 ≡ get_or v.group.number j 0
  pub numbers_new : (j : ℕ) → count v.group 1 ≤ j → j < x.slots → count v.group 6 < get_or x.number j 0
