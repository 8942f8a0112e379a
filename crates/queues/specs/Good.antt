-- The columns of a buffer are well formed: what every public call may rely on, and leaves so. Assumes nothing.
use Rattle.std.specs.Prelude.{◌≡◌, List, ℕ, ◌*◌, ◌≤◌, ◌<◌, length, get_or}
use Rattle.rules.specs.Queues.{held_ints, held_exts}
use Rattle.rules.specs.Kept.{TidyBuffer}
use Rattle.message.specs.Real.{Real}
use Rattle.queues.specs.Cols.{Cols, Half, live, kept, number}
use Rattle.queues.specs.Indexed.{Indexed}
use Rattle.queues.specs.Meant.{buffer_of}

-- the columns of messages and accounts are as long as a buffer's
pub record Long (c : Cols) : Type 0 where
  pub owner : length c.owner ≡ 2048
  pub kind : length c.kind ≡ 2048
  pub form : length c.form ≡ 2048
  pub time : length c.time ≡ 2048
  pub address : length c.address ≡ 65536
  pub hash : length c.hash ≡ 65536
  pub accounts : length c.accounts ≡ 16384

-- a half that holds at most M messages and A accounts
pub record GoodHalf (M A : ℕ) (h : Half) : Type 0 where
  pub messages : h.messages ≤ M
  pub places : h.places ≤ A
  -- every message belongs to a place of the order, is internal or external, and has a form
  pub placed : (i : ℕ) → i < h.messages → get_or h.owner i 0 < h.places
  pub kinds : (i : ℕ) → i < h.messages → get_or h.kind i 0 ≤ 1
  pub forms : (i : ℕ) → i < h.messages → get_or h.form i 0 ≤ 1
  -- the counts are those of the queues
  pub ints : h.ints ≡ held_ints Real (buffer_of h)
  pub exts : h.exts ≡ held_exts Real (buffer_of h)
  -- no minimum is 0 and unmarked
  pub marked : h.marked ≤ 1
  pub unmarked : h.marked ≡ 0 → h.least ≡ 0
  -- an account once, none without a message, the minimum not above any external
  pub tidy : TidyBuffer Real (buffer_of h)

-- the cells from the first to before the last hold 0
abbrev pub Zeros : List ℕ → ℕ → ℕ → Type 0
Zeros xs first last = (i : ℕ) → first ≤ i → i < last → get_or xs i 0 ≡ 0

-- the cells of the live half past what is held hold the fresh value
pub record Blank (c : Cols) : Type 0 where
  pub owner : Zeros c.owner (number c 2) 1024
  pub kind : Zeros c.kind (number c 2) 1024
  pub form : Zeros c.form (number c 2) 1024
  pub time : Zeros c.time (number c 2) 1024
  pub address : Zeros c.address (32 * number c 2) 32768
  pub hash : Zeros c.hash (32 * number c 2) 32768
  pub accounts : Zeros c.accounts (32 * number c 3) 8192
  pub last : number c 15 ≡ 0

-- columns that are well formed, and of whose index this is said
pub record Formed (said : Type 0) (c : Cols) : Type 0 where
  pub lengths : Long c
  pub many : length c.numbers ≡ 528
  -- "M messages (1 to 1,024) and A accounts (1 to 256)"
  pub M·low : 1 ≤ number c 0
  pub M·high : number c 0 ≤ 1024
  pub A·low : 1 ≤ number c 1
  pub A·high : number c 1 ≤ 256
  pub now : GoodHalf (number c 0) (number c 1) (live c)
  pub blank : Blank c
  pub opened : number c 8 ≤ 1
  pub then : number c 8 ≡ 1 → GoodHalf (number c 0) (number c 1) (kept c)
  pub index : said

-- well formed, with the index of the names in the order
abbrev pub Good : Cols → Type 0
Good c = Formed (Indexed c) c
