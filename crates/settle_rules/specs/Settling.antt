-- The end of a fill: what it needs of what a run left, and what it leaves. Assumes nothing.
use Rattle.std.specs.Prelude.{◌≡◌, List, [], ℕ, ◌+◌, ◌-◌, ◌*◌, ◌<◌, ◌≤◌, length, get_or, replicate}
use Rattle.rules.specs.Fill.{reindexed}
use Rattle.columns.specs.Lists.{rank}
use Rattle.columns.specs.Laid.{laid_at}
use Rattle.columns.specs.Rows.{flat}
use Rattle.buckets.specs.Cells.{index}
use Rattle.buckets.specs.Moves.{Plain, slots_of, Leaves, MayReindex}
use Rattle.queues.specs.Cols.{Cols, cols}
use Rattle.queues.specs.Good as queues
use Rattle.slots.specs.Table.{Table, count}
use Rattle.slots.specs.Good as slots
use Rattle.moves.specs.Moves.{held_at}
use Rattle.meaning.specs.Passes.{RanC}
use Rattle.settle.specs.Copies.{Takes, TakesRows, TakesOwners, TakesKeys, TakesParties, is_key, seats_at, seated_by, accounts_at, Fields, Bodies, Keyed}
use Rattle.settle.specs.Ends.{filled_c}
use Rattle.settle_rules.specs.Facts.{held_by, TableSettled}

-- no member has a seat yet
abbrev pub no_seats : List ℕ
no_seats = replicate 1280 0

-- ---- the rows taken: n of them, behind the `at` that the group holds; the columns' lengths stand as numbers

pub record MayTake (left taken : List ℕ) (n : ℕ) (member : List ℕ) (members at kind form time address hash owner2 kind2 form2 time2 address2 hash2 : ℕ) : Type 0 where
  pub member_long : length member ≡ 1280
  pub most : members ≤ 1280
  pub parties : (g : ℕ) → g < members → get_or member g 0 < 1280
  pub owners : TakesOwners n left taken at 1280 owner2
  pub fields : Takes 0 n kind taken at kind2
  pub form_long : form ≡ kind
  pub time_long : time ≡ kind
  pub form2_long : form2 ≡ kind2
  pub time2_long : time2 ≡ kind2
  pub bodies : TakesRows 0 n address taken at address2
  pub hash_long : hash ≡ address
  pub hash2_long : hash2 ≡ address2

-- the columns of one message table
pub record Messages : Type 0 where
  pub owner : List ℕ
  pub kind : List ℕ
  pub form : List ℕ
  pub time : List ℕ
  pub address : List ℕ
  pub hash : List ℕ

abbrev pub messages : (owner kind form time address hash : List ℕ) → Messages
messages owner kind form time address hash = record {
  owner = owner;
  kind = kind;
  form = form;
  time = time;
  address = address;
  hash = hash;
}

-- `from` the buffer's rows with their owners as the run left them; m before, m' after
pub record Took (taken : List ℕ) (n : ℕ) (member : List ℕ) (members at : ℕ) (from m m' : Messages) : Type 0 where
  pub owners : m'.owner ≡ laid_at at (seats_at n taken from.owner (seated_by members member no_seats)) m.owner
  pub fields : Fields n taken at from.kind from.form from.time m.kind m.form m.time m'.kind m'.form m'.time
  pub bodies : Bodies n taken at from.address from.hash m.address m.hash m'.address m'.hash

-- ---- the slots: their numbers and counts as the run left them, and the index

pub record MayRenumber (slots : ℕ) (number ints exts number2 ints2 exts2 buckets : List ℕ) : Type 0 where
  pub ints_long : length ints ≡ 64
  pub exts_long : length exts ≡ 64
  pub ints2_long : length ints2 ≡ 64
  pub exts2_long : length exts2 ≡ 64
  pub low : (j : ℕ) → j < 64 → held_at ints exts j ≤ 16
  pub low2 : (j : ℕ) → j < 64 → held_at ints2 exts2 j ≤ 16
  pub index_fits : MayReindex buckets number (held_by 64 ints2 exts2) (held_by 64 ints exts) slots

pub record Renumbered (slots : ℕ) (number ints exts ints2 exts2 buckets number' ints' exts' buckets' : List ℕ) : Type 0 where
  pub number_is : number' ≡ number
  pub ints_is : ints' ≡ ints
  pub exts_is : exts' ≡ exts
  pub listed : Leaves (reindexed Plain (slots_of number (held_by 64 ints2 exts2) slots) (slots_of number (held_by 64 ints exts) slots) 0 (index buckets)) buckets'

-- ---- the group, x being what the run left

-- of the buffer's columns those that the group's end reads
abbrev pub from : (kind form time address hash accounts : List ℕ) → Cols
from kind form time address hash accounts = cols [] kind form time address hash accounts []

pub record MaySettleGroup (c : Cols) (t : Table) (x : RanC) : Type 0 where
  pub kind_long : length c.kind ≡ 2048
  pub form_long : length c.form ≡ 2048
  pub time_long : length c.time ≡ 2048
  pub address_long : length c.address ≡ 65536
  pub hash_long : length c.hash ≡ 65536
  pub accounts_long : length c.accounts ≡ 16384
  pub group : slots.Good t
  -- the rows taken
  pub home_long : length x.now.store.home ≡ 1280
  pub member_long : length x.now.store.member ≡ 1280
  pub owners : TakesOwners x.now.store.tally.taken x.now.store.owner x.now.store.taken (count t 3) 1280 1024
  -- the members, those that entered having a place in the order
  pub more : count t 2 ≤ x.now.store.tally.accounts
  pub few : x.now.store.tally.accounts ≤ 1024
  pub parties : (g : ℕ) → g < x.now.store.tally.accounts → get_or x.now.store.member g 0 < 1280
  pub places : (g : ℕ) → count t 2 ≤ g → g < x.now.store.tally.accounts → get_or x.now.store.member g 0 < 256
  -- the slots
  pub slots_fit : MayRenumber x.slots x.number x.now.store.ints x.now.store.exts t.number t.ints t.exts t.buckets

-- how many of the rows taken are internals
abbrev pub internals_of : (kind : List ℕ) → RanC → ℕ
internals_of kind x = rank (is_key x.now.store.taken kind) x.now.store.tally.taken

-- ---- the key list and the set: the columns' lengths stand as numbers

pub record MayTell (kind : List ℕ) (time hash accounts accounts2 : ℕ) (x : RanC) (set held lts hashes : ℕ) : Type 0 where
  pub keys : TakesKeys x.now.store.tally.taken x.now.store.taken kind time hash lts hashes
  pub joins : TakesParties x.now.store.tally.joined x.now.joined held
  pub accounts_long : accounts ≡ 16384
  pub accounts2_long : accounts2 ≡ 32768
  pub set_long : set ≡ 16384

-- `ints` of the rows taken are internals
pub record Told (kind time hash accounts accounts2 : List ℕ) (x : RanC) (set set' : List ℕ) (held held' : ℕ) (lts lts' hashes hashes' : List ℕ) (ints : ℕ) : Type 0 where
  pub keys : Keyed x.now.store.tally.taken x.now.store.taken kind time hash lts hashes lts' hashes' ints
  pub set_is : set' ≡ laid_at (32 * held) (flat (accounts_at x.now.store.tally.joined x.now.joined accounts accounts2)) set
  pub held_is : held' ≡ held + x.now.store.tally.joined

-- ---- the whole end

-- c the buffer's columns, t the group's, `held` accounts in the set, key rows of these lengths
pub record MaySettle (c : Cols) (t : Table) (x : RanC) (set : List ℕ) (held lts hashes : ℕ) : Type 0 where
  pub buffer : queues.Good c
  pub group : MaySettleGroup c t x
  pub set_long : length set ≡ 16384
  pub keys : TakesKeys x.now.store.tally.taken x.now.store.taken c.kind (length c.time) (length c.hash) lts hashes
  pub joins : TakesParties x.now.store.tally.joined x.now.joined held

-- what the end leaves; k slots were to be opened
pub record Settled (c c' : Cols) (t t' : Table) (x : RanC) (k : ℕ) (set set' : List ℕ) (held held' : ℕ) (lts lts' hashes hashes' : List ℕ) : Type 0 where
  pub keys : Keyed x.now.store.tally.taken x.now.store.taken c.kind c.time c.hash lts hashes lts' hashes' (internals_of c.kind x)
  pub set_is : set' ≡ laid_at (32 * held) (flat (accounts_at x.now.store.tally.joined x.now.joined c.accounts t.accounts)) set
  pub held_is : held' ≡ held + x.now.store.tally.joined
  pub group : TableSettled t t' c x k no_seats
  pub buffer : c' ≡ filled_c x.now.store.owner c
