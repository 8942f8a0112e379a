-- What the contract of a join on lent columns cites, and those of its parts. Assumes nothing.
use Rattle.std.specs.Prelude.{◌≡◌, cond, List, [], ℕ, ◌≤◌, eqb, length}
use Rattle.rules.specs.Calls as calls
use Rattle.message.specs.Answers.{Code, number as number_of}
use Rattle.message.specs.Real.{Real}
use Rattle.slots.specs.Table.{Table, table, count}
use Rattle.slots.specs.Meant.{meant}
use Rattle.slots.specs.Good.{Good}
use Rattle.slots.specs.Join.{fresh_t, next_t, join_code_t, joined_numbers_by, joined_t, AccountsJoined, MessagesJoined, RecordsJoined}
use Rattle.number_joins.specs.Sums.{Summable}
use Rattle.slot_joins.specs.Slots.{MayAddSlots, SlotsAdded}
use Rattle.row_joins.specs.Rooms.{AccountRoom, MessageRoom, RecordRoom}

-- ---- a join: both groups well formed, the rule's code and meaning, and exactly these columns; well formed buckets are told by their index

-- refused, both are as they were; done, the right's rows stand behind the left's, and the right is fresh
pub record JoinsTo (given decided : Code) (l r l' r' : Table) : Type 0 where
  pub code : given ≡ decided
  pub left : l' ≡ cond (eqb (number_of decided) 0) (joined_t l r l'.buckets) l
  pub right : r' ≡ cond (eqb (number_of decided) 0) (fresh_t (count r 0)) r

pub record Merges (l r : Table) (code : Code) (l' r' : Table) : Type 0 where
  pub good : Good l' × Good r'
  pub ruled : record { code = number_of code; left = meant l'; right = meant r' } ≡ calls.join_groups Real (meant l) (meant r)
  pub exactly : JoinsTo code (join_code_t l r) l r l' r'

-- ---- all rows of the right behind those of the left

-- the right's columns that are read
abbrev pub rows : (ints exts accounts home owner kind form time address hash numbers : List ℕ) → Table
rows ints exts accounts home owner kind form time address hash numbers = table [] ints exts accounts home owner kind form time address hash [] numbers

pub record MayAdd (l r : Table) : Type 0 where
  pub slots : MayAddSlots (count l 1) (count r 1) (next_t l) (length l.number) (length l.ints) (length l.exts) l.buckets r.ints r.exts
  pub accounts : AccountRoom (count l 2) (count r 2) (count l 1) r.home (length l.accounts) (length l.home) (length r.accounts)
  pub messages : MessageRoom (count l 3) (count r 3) (count l 2) r.owner (length l.owner) (length l.kind) (length l.form) (length l.time) (length r.kind) (length r.form) (length r.time)
  pub records : RecordRoom (count l 3) (count r 3) (length l.address) (length l.hash) (length r.address) (length r.hash)
  pub sums : Summable (next_t l) l.numbers r.numbers
  pub last : count l 6 ≤ 65535

pub record Added (l r l' : Table) : Type 0 where
  pub slots : SlotsAdded (count l 1) (count r 1) (next_t l) r.ints r.exts l.number l.ints l.exts l.buckets l'.number l'.ints l'.exts l'.buckets
  pub accounts : AccountsJoined (count l 2) (count r 2) (count l 1) r.accounts r.home l.accounts l.home l'.accounts l'.home
  pub messages : MessagesJoined (count l 3) (count r 3) (count l 2) r.owner r.kind r.form r.time l.owner l.kind l.form l.time l'.owner l'.kind l'.form l'.time
  pub records : RecordsJoined (count l 3) (count r 3) r.address r.hash l.address l.hash l'.address l'.hash
  pub numbers : l'.numbers ≡ joined_numbers_by (next_t l) l.numbers r.numbers
