-- The columns of a group are well formed: what every public call may rely on, and leaves so. Assumes nothing.
use Rattle.std.specs.Prelude.{◌≡◌, List, ℕ, ◌*◌, ◌≤◌, ◌<◌, length, get_or}
use Rattle.rules.specs.Fill.{group_ints, group_exts}
use Rattle.rules.specs.Kept.{TidyGroup}
use Rattle.message.specs.Real.{Real}
use Rattle.queues.specs.Good.{Zeros}
use Rattle.buckets.specs.Cells.{GoodBuckets}
use Rattle.slots.specs.Table.{Table, count}
use Rattle.slots.specs.Meant.{group_of}

pub record Long (t : Table) : Type 0 where
  pub number : length t.number ≡ 64
  pub ints : length t.ints ≡ 64
  pub exts : length t.exts ≡ 64
  pub accounts : length t.accounts ≡ 32768
  pub home : length t.home ≡ 1024
  pub owner : length t.owner ≡ 1024
  pub kind : length t.kind ≡ 1024
  pub form : length t.form ≡ 1024
  pub time : length t.time ≡ 1024
  pub address : length t.address ≡ 32768
  pub hash : length t.hash ≡ 32768
  pub numbers : length t.numbers ≡ 16

-- the cells past what is held hold the fresh value
pub record Blank (t : Table) : Type 0 where
  pub number : Zeros t.number (count t 1) 64
  pub ints : Zeros t.ints (count t 1) 64
  pub exts : Zeros t.exts (count t 1) 64
  pub accounts : Zeros t.accounts (32 * count t 2) 32768
  pub home : Zeros t.home (count t 2) 1024
  pub owner : Zeros t.owner (count t 3) 1024
  pub kind : Zeros t.kind (count t 3) 1024
  pub form : Zeros t.form (count t 3) 1024
  pub time : Zeros t.time (count t 3) 1024
  pub address : Zeros t.address (32 * count t 3) 32768
  pub hash : Zeros t.hash (32 * count t 3) 32768
  pub numbers : Zeros t.numbers 8 16

pub record Good (t : Table) : Type 0 where
  pub lengths : Long t
  -- "S slots (1 to 64) for a group"
  pub S·low : 1 ≤ count t 0
  pub S·high : count t 0 ≤ 64
  pub slots : count t 1 ≤ count t 0
  -- "64 slots of height 16"
  pub accounts : count t 2 ≤ 1024
  pub messages : count t 3 ≤ 1024
  -- every message belongs to an account, every account to a slot
  pub placed : (i : ℕ) → i < count t 3 → get_or t.owner i 0 < count t 2
  pub housed : (a : ℕ) → a < count t 2 → get_or t.home a 0 < count t 1
  pub kinds : (i : ℕ) → i < count t 3 → get_or t.kind i 0 ≤ 1
  pub forms : (i : ℕ) → i < count t 3 → get_or t.form i 0 ≤ 1
  -- the counts are those of the lists
  pub ints : count t 4 ≡ group_ints Real (group_of t)
  pub exts : count t 5 ≡ group_exts Real (group_of t)
  -- a last number fits 16 bits; none is 0 and unmarked
  pub last : count t 6 ≤ 65535
  pub marked : count t 7 ≤ 1
  pub unmarked : count t 7 ≡ 0 → count t 6 ≡ 0
  pub buckets : GoodBuckets t.buckets
  pub blank : Blank t
  -- what the rules keep of a group: a fill needs nothing else
  pub tidy : TidyGroup Real (group_of t)
