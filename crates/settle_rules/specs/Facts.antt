-- What has to be known of the numbers of a fill, so that the settled columns mean what the rules say: the renaming gives the accounts and
-- the messages that stand in the columns. Assumes nothing.
use Rattle.std.specs.Prelude.{◌≡◌, Bool, ◌⊎◌, List, map, ℕ, ◌+◌, ◌-◌, ◌*◌, ◌<◌, ◌≤◌, eqb, length, get_or}
use Rattle.columns.specs.Lists.{tab_i, pick, rank}
use Rattle.columns.specs.Laid.{laid_at}
use Rattle.columns.specs.Rows.{row_at, rows_of}
use Rattle.rules.specs.Fill.{reindexed, group_ints, group_exts}
use Rattle.rules.specs.Kept.{TidyGroup}
use Rattle.message.specs.Real.{Real, Key, key_of}
use Rattle.queues.specs.Cols.{Cols, live, number}
use Rattle.queues.specs.Meant.{message_in}
use Rattle.queues.specs.Good.{Zeros, Good}
use Rattle.queues.specs.Good.{Long as Cols-long}
use Rattle.buckets.specs.Cells.{index}
use Rattle.buckets.specs.Moves.{Plain, Leaves}
use Rattle.buckets.specs.Moves.{slots_of as plain_slots}
use Rattle.slots.specs.Table.{Table, count}
use Rattle.slots.specs.Meant.{listed, group_of}
use Rattle.slots.specs.Good.{Good as GroupGood}
use Rattle.moves.specs.declared.Fixed.{Fixed}
use Rattle.moves.specs.Moves.{Store, nowhere}
use Rattle.meaning.specs.Meaning.{Numbers, Columns, Setting}
use Rattle.meaning.specs.Passes.{RanC}
use Rattle.renaming.specs.Renaming.{Renaming}
use Rattle.settle.specs.Copies.{party_row, seats_at, seated_by, is_key, Fields, Bodies, Entered}
use Rattle.settle.specs.Ends.{in_counts}

-- ---- the buffer

-- the rows and places are those of the buffer; every row is held by a place, or taken or dropped
pub record BufferFacts (ext : ℕ → Bool) (time : ℕ → ℕ) (f : Renaming (Numbers ext time) Real) (fx : Fixed) (c : Cols) (left : List ℕ) : Type 0 where
  pub good : Good c
  pub rows : fx.rows ≡ number c 2
  pub places : fx.places ≡ number c 3
  pub long : length left ≡ 1024
  pub owners : (i : ℕ) → i < number c 2 → (get_or left i 0 < number c 3) ⊎ (256 ≤ get_or left i 0)
  pub acc : (p : ℕ) → p < number c 3 → f.acc p ≡ row_at c.accounts p
  pub msg : (i : ℕ) → i < number c 2 → f.msg i ≡ message_in (live c) i

-- ---- the key list

abbrev pub key_at : (lts hashes : List ℕ) → ℕ → Key
key_at lts hashes i = record { lt = get_or lts i 0; hash = row_at hashes i }

-- a key list of k rows
unfoldable pub keys_of : (k : ℕ) (lts hashes : List ℕ) → List Key
keys_of k lts hashes = tab_i k 0 (key_at lts hashes)

-- the rows taken are rows of the buffer; their kind and their key are those of the messages there
pub record KeyFacts (ext : ℕ → Bool) (time : ℕ → ℕ) (f : Renaming (Numbers ext time) Real) (c : Cols) (n : ℕ) (rows : List ℕ) : Type 0 where
  pub named : n ≤ length rows
  pub there : (k : ℕ) → k < n → get_or rows k 0 < number c 2
  pub hash_long : 32 * number c 2 ≤ length c.hash
  pub external : (i : ℕ) → i < number c 2 → ext i ≡ eqb (get_or c.kind i 0) 1
  pub msg : (i : ℕ) → i < number c 2 → f.msg i ≡ message_in (live c) i
  pub key : (i : ℕ) → i < number c 2 → f.key i ≡ key_of (f.msg i)

-- ---- the skipped set

-- n parties joined, behind k accounts
pub record SetFacts (ext : ℕ → Bool) (time : ℕ → ℕ) (f : Renaming (Numbers ext time) Real) (k n : ℕ) (entry joined accounts others set₀ : List ℕ) : Type 0 where
  pub named : n ≤ length joined
  pub there : (i : ℕ) → i < n → get_or joined i 0 < 1280
  pub fits : k + n ≤ 512
  pub accounts_long : length accounts ≡ 16384
  pub others_long : length others ≡ 32768
  pub set_long : length set₀ ≡ 16384
  pub entry_is : rows_of k set₀ ≡ map f.acc entry
  pub acc : (i : ℕ) → i < n → f.acc (get_or joined i 0) ≡ party_row accounts others (get_or joined i 0)

-- ---- the group

-- what the end of a fill did to the group's columns: t before, t' after, m being the columns on numbers
pub record GroupSettled (t t' : Table) (c : Cols) (m : Columns) (seat₀ : List ℕ) : Type 0 where
  pub fields : Fields m.store.tally.taken m.store.taken (count t 3) c.kind c.form c.time t.kind t.form t.time t'.kind t'.form t'.time
  pub bodies : Bodies m.store.tally.taken m.store.taken (count t 3) c.address c.hash t.address t.hash t'.address t'.hash
  pub owners : t'.owner
      ≡ laid_at (count t 3) (seats_at m.store.tally.taken m.store.taken m.store.owner (seated_by m.store.tally.accounts m.store.member seat₀)) t.owner
  pub entered : Entered (count t 2) (m.store.tally.accounts - count t 2) m.store.member c.accounts m.store.home t.accounts t.home t'.accounts t'.home
  pub seats_long : length seat₀ ≡ 1280
  pub messages : count t' 3 ≡ count t 3 + m.store.tally.taken
  pub accounts : count t' 2 ≡ m.store.tally.accounts

-- the counts of the slots, by position; those behind them hold nothing
abbrev pub held_by : (n : ℕ) (ints exts : List ℕ) → List ℕ
held_by n ints exts = tab_i n 0 (λ j. get_or ints j 0 + get_or exts j 0)

-- what the end of a fill did to a group's columns: t before, t' after, x what the run left, k slots were to be opened
pub record TableSettled (t t' : Table) (c : Cols) (x : RanC) (k : ℕ) (seat₀ : List ℕ) : Type 0 where
  pub fields : Fields x.now.store.tally.taken x.now.store.taken (count t 3) c.kind c.form c.time t.kind t.form t.time
      t'.kind t'.form t'.time
  pub bodies : Bodies x.now.store.tally.taken x.now.store.taken (count t 3) c.address c.hash t.address t.hash
      t'.address t'.hash
  pub owners : t'.owner
      ≡ laid_at (count t 3)
      (seats_at x.now.store.tally.taken x.now.store.taken x.now.store.owner (seated_by x.now.store.tally.accounts x.now.store.member seat₀))
      t.owner
  pub entered : Entered (count t 2) (x.now.store.tally.accounts - count t 2) x.now.store.member c.accounts x.now.store.home
      t.accounts t.home t'.accounts t'.home
  pub seats_long : length seat₀ ≡ 1280
  pub number : t'.number ≡ x.number
  pub ints : t'.ints ≡ x.now.store.ints
  pub exts : t'.exts ≡ x.now.store.exts
  pub numbers : t'.numbers
      ≡ in_counts x.slots x.now.store.tally.accounts x.now.store.tally.taken
      (rank (is_key x.now.store.taken c.kind) x.now.store.tally.taken) k x.last t.numbers
  pub buckets : Leaves
      (reindexed Plain (plain_slots x.number (held_by 64 t.ints t.exts) x.slots)
      (plain_slots x.number (held_by 64 x.now.store.ints x.now.store.exts) x.slots) 0 (index t.buckets))
      t'.buckets

-- what else makes the settled group well formed: the buffer was, the cells behind the slots hold nothing, the slots and the last number have
-- room, and the rules' group is tidy, with as many messages more as rows were taken
pub record Settling (t t' : Table) (c : Cols) (x : RanC) : Type 0 where
  pub buffer : Good c
  pub number_long : length x.number ≡ 64
  pub ints_long : length x.now.store.ints ≡ 64
  pub exts_long : length x.now.store.exts ≡ 64
  pub number_clear : Zeros x.number x.slots 64
  pub ints_clear : Zeros x.now.store.ints x.slots 64
  pub exts_clear : Zeros x.now.store.exts x.slots 64
  pub room : x.slots ≤ count t 0
  pub last : x.last ≤ 65535
  pub internals : group_ints Real (group_of t') ≡ count t 4 + rank (is_key x.now.store.taken c.kind) x.now.store.tally.taken
  pub externals : group_exts Real (group_of t')
      ≡ count t 5 + (x.now.store.tally.taken - rank (is_key x.now.store.taken c.kind) x.now.store.tally.taken)
  pub tidy : TidyGroup Real (group_of t')

-- the numbers of the group's accounts and messages, at entry and now
pub record GroupFacts (ext : ℕ → Bool) (time : ℕ → ℕ) (f : Renaming (Numbers ext time) Real) (c : Cols) (t : Table) (b : Setting) (m : Columns) : Type 0 where
  pub long : Cols-long c
  pub good : GroupGood t
  pub few : number c 2 ≤ 1024
  -- the rows taken
  pub taken_long : m.store.tally.taken ≤ length m.store.taken
  pub there : (k : ℕ) → k < m.store.tally.taken → get_or m.store.taken k 0 < number c 2
  pub from : (k : ℕ) → k < m.store.tally.taken → 2048 ≤ get_or m.store.owner (get_or m.store.taken k 0) 0
  pub party : (k : ℕ) → k < m.store.tally.taken → get_or m.store.owner (get_or m.store.taken k 0) 0 < 3328
  pub room : count t 3 + m.store.tally.taken ≤ 1024
  -- the members: those at entry, and those that entered, which have a place in the order
  pub member_long : length m.store.member ≡ 1280
  pub more : count t 2 ≤ m.store.tally.accounts
  pub seats : m.store.tally.accounts ≤ 1024
  pub old_acc : (g : ℕ) → g < count t 2 → f.acc (get_or m.store.member g 0) ≡ row_at t.accounts g
  pub new_place_lem : (g : ℕ) → count t 2 ≤ g → g < m.store.tally.accounts → get_or m.store.member g 0 < 256
  pub new_acc : (g : ℕ) → count t 2 ≤ g → g < m.store.tally.accounts → f.acc (get_or m.store.member g 0) ≡ row_at c.accounts (get_or m.store.member g 0)
  pub old_home : (g : ℕ) → g < count t 2 → get_or m.store.home (get_or m.store.member g 0) 0 ≡ get_or t.home g 0
  -- the messages: those of the group, and those of the buffer
  pub old_msg : (k : ℕ) → k < count t 3 → f.msg (2048 + k) ≡ message_in (listed t) k
  pub new_msg : (i : ℕ) → i < number c 2 → f.msg i ≡ message_in (live c) i
  pub entry : b.entry_lists ≡ tab_i (count t 2) 0 (λ g. pick (λ k. 2048 + k) g (count t 3) 0 t.owner)

-- ---- what a run keeps on numbers, s₀ being the columns at entry

pub record TracedStore (fx : Fixed) (s₀ s : Store) : Type 0 where
  -- an owner is a place, or the mark of a row that was taken or dropped
  pub owners : (i : ℕ) → i < fx.rows → (get_or s.owner i 0 < fx.places) ⊎ (2048 ≤ get_or s.owner i 0)
  -- a row taken has the mark of a party
  pub rows : (k : ℕ) → k < s.tally.taken → get_or s.taken k 0 < fx.rows
  pub from : (k : ℕ) → k < s.tally.taken → 2048 ≤ get_or s.owner (get_or s.taken k 0) 0
  pub party : (k : ℕ) → k < s.tally.taken → get_or s.owner (get_or s.taken k 0) 0 < 3328
  -- the members at entry stay, and their homes; those that enter have a place in the order
  pub more : s₀.tally.accounts ≤ s.tally.accounts
  pub old : (g : ℕ) → g < s₀.tally.accounts → get_or s.member g 0 ≡ get_or s₀.member g 0
  pub new : (g : ℕ) → s₀.tally.accounts ≤ g → g < s.tally.accounts → get_or s.member g 0 < fx.places
  pub stays : (p : ℕ) → p < 1280 → (get_or s₀.home p 0 ≡ nowhere → ⊥) → get_or s.home p 0 ≡ get_or s₀.home p 0

pub record Traced (fx : Fixed) (m₀ m : Columns) : Type 0 where
  pub store : TracedStore fx m₀.store m.store
  pub joined : (k : ℕ) → k < m.store.tally.joined → get_or m.joined k 0 < 1280

-- the cells of the positions from s on hold nothing: no number, no count
pub record BlankFrom (s : ℕ) (m : Columns) (numbers : List ℕ) : Type 0 where
  pub number0 : (j : ℕ) → s ≤ j → j < 64 → get_or numbers j 0 ≡ 0
  pub ints0 : (j : ℕ) → s ≤ j → j < 64 → get_or m.store.ints j 0 ≡ 0
  pub exts0 : (j : ℕ) → s ≤ j → j < 64 → get_or m.store.exts j 0 ≡ 0

-- how many slots there are, the last number and the slots' numbers, n slots being to be opened
pub record OpensAtMost (n slots last : ℕ) (slots' last' : ℕ) (numbers' : List ℕ) : Type 0 where
  pub more : slots ≤ slots'
  pub most : slots' ≤ slots + n
  pub long : length numbers' ≡ 64
  pub last_more : last ≤ last'
  pub last_most : last' ≤ last + n

-- ---- what the entry makes: the numbers of the buffer and of the group

pub record EntryFacts (ext : ℕ → Bool) (time : ℕ → ℕ) (f : Renaming (Numbers ext time) Real) (fx : Fixed) (c : Cols) (t : Table) (b : Setting) (m₀ : Columns) : Type 0 where
  pub good : Good c
  pub group : GroupGood t
  pub rows : fx.rows ≡ number c 2
  pub places : fx.places ≡ number c 3
  pub accounts : m₀.store.tally.accounts ≡ count t 2
  -- the accounts: of the order by their place, of the group by their member
  pub acc : (p : ℕ) → p < number c 3 → f.acc p ≡ row_at c.accounts p
  pub member : (g : ℕ) → g < count t 2 → f.acc (get_or m₀.store.member g 0) ≡ row_at t.accounts g
  pub parties : (g : ℕ) → g < count t 2 → get_or m₀.store.member g 0 < 1280
  pub homes : (g : ℕ) → g < count t 2 → get_or m₀.store.home (get_or m₀.store.member g 0) 0 ≡ get_or t.home g 0
  -- the messages
  pub msg : (i : ℕ) → i < number c 2 → f.msg i ≡ message_in (live c) i
  pub old_msg : (k : ℕ) → k < count t 3 → f.msg (2048 + k) ≡ message_in (listed t) k
  pub entry : b.entry_lists ≡ tab_i (count t 2) 0 (λ g. pick (λ k. 2048 + k) g (count t 3) 0 t.owner)
  pub external : (i : ℕ) → i < number c 2 → ext i ≡ eqb (get_or c.kind i 0) 1
  pub key : (i : ℕ) → i < number c 2 → f.key i ≡ key_of (f.msg i)
