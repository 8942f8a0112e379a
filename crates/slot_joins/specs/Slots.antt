-- The slots of a join: the room that they are laid to, what their listing needs, and what both leave. Assumes nothing.
use Rattle.std.specs.Prelude.{◌≡◌, List, ℕ, ◌+◌, ◌≤◌, ◌<◌, length, get_or}
use Rattle.rules.specs.Fill.{listed_too}
use Rattle.columns.specs.Lists.{tab_i}
use Rattle.buckets.specs.Cells.{index}
use Rattle.buckets.specs.Moves.{Plain, Leaves, MayList, slots_of}
use Rattle.slots.specs.Join.{SlotsJoined}
use Rattle.joins.specs.Laying.{Countable}

pub record SlotRoom (held n first numbers ints exts ints2 exts2 : ℕ) : Type 0 where
  pub room : held + n ≤ 64
  pub low : first + n ≤ 65536
  pub number : numbers ≡ 64
  pub int : ints ≡ 64
  pub ext : exts ≡ 64
  pub int2 : ints2 ≡ 64
  pub ext2 : exts2 ≡ 64

-- ---- the slots: n new ones, numbered from `first` on, behind those held

-- a column of 64 counts of the first n slots
pub record Counts (n : ℕ) (ints exts counts : List ℕ) : Type 0 where
  pub long : length counts ≡ 64
  pub each : (i : ℕ) → i < n → get_or counts i 0 ≡ get_or ints i 0 + get_or exts i 0

pub record MayAddSlots (held n first : ℕ) (numbers ints exts : ℕ) (buckets ints2 exts2 : List ℕ) : Type 0 where
  pub room : SlotRoom held n first numbers ints exts (length ints2) (length exts2)
  pub few : Countable n ints2 exts2
  pub lists : (counts : List ℕ) → Counts n ints2 exts2 counts → MayList buckets (tab_i n first (λ k. k)) counts n

pub record SlotsAdded (held n first : ℕ) (ints2 exts2 number₀ ints₀ exts₀ buckets₀ number' ints' exts' buckets' : List ℕ) : Type 0 where
  pub joined : SlotsJoined held n first ints2 exts2 number₀ ints₀ exts₀ number' ints' exts'
  pub counts : List ℕ
  pub counted : Counts n ints2 exts2 counts
  pub listed : Leaves (listed_too Plain (slots_of (tab_i n first (λ k. k)) counts n) 0 (index buckets₀)) buckets'
