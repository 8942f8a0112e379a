-- The columns of a buffer as one value. Rows 0 to 1,023 of a column are the live half; rows 1,024 to 2,047 are the backup room, "a room for
-- M messages beside the buffer". Assumes nothing.
use Rattle.std.specs.Prelude.{List, ℕ, zero, suc, get_or, drop}

-- one row a message: the place of its account in the order, and its record; one row of 32 bytes an account; sixteen numbers,
-- and behind them the index of the accounts in the order
pub record Cols : Type 0 where
  pub owner : List ℕ
  pub kind : List ℕ
  pub form : List ℕ
  pub time : List ℕ
  pub address : List ℕ
  pub hash : List ℕ
  pub accounts : List ℕ
  pub numbers : List ℕ

abbrev pub cols : (owner kind form time address hash accounts numbers : List ℕ) → Cols
cols owner kind form time address hash accounts numbers = record {
  owner = owner;
  kind = kind;
  form = form;
  time = time;
  address = address;
  hash = hash;
  accounts = accounts;
  numbers = numbers;
}

-- the columns with other numbers
abbrev pub with_numbers : List ℕ → Cols → Cols
with_numbers ns c = record {
  owner = c.owner;
  kind = c.kind;
  form = c.form;
  time = c.time;
  address = c.address;
  hash = c.hash;
  accounts = c.accounts;
  numbers = ns;
}

-- number k of a buffer: 0 M, 1 A, 2 messages held, 3 accounts held, 4 internals, 5 externals, 6 the minimum, 7 whether there is one,
-- 8 whether a transaction is open, 9 to 14 the numbers 2 to 7 as they were at begin
abbrev pub number : Cols → ℕ → ℕ
number c k = get_or c.numbers k 0

-- one half of the columns: the messages held with their accounts, and the numbers that belong to them
pub record Half : Type 0 where
  pub owner : List ℕ
  pub kind : List ℕ
  pub form : List ℕ
  pub time : List ℕ
  pub address : List ℕ
  pub hash : List ℕ
  pub accounts : List ℕ
  pub messages : ℕ
  pub places : ℕ
  pub ints : ℕ
  pub exts : ℕ
  pub least : ℕ
  pub marked : ℕ

-- what the buffer holds now
abbrev pub live : Cols → Half
live c = record {
  owner = c.owner;
  kind = c.kind;
  form = c.form;
  time = c.time;
  address = c.address;
  hash = c.hash;
  accounts = c.accounts;
  messages = number c 2;
  places = number c 3;
  ints = number c 4;
  exts = number c 5;
  least = number c 6;
  marked = number c 7;
}

-- what it held at begin
abbrev pub kept : Cols → Half
kept c = record {
  owner = drop 1024 c.owner;
  kind = drop 1024 c.kind;
  form = drop 1024 c.form;
  time = drop 1024 c.time;
  address = drop 32768 c.address;
  hash = drop 32768 c.hash;
  accounts = drop 8192 c.accounts;
  messages = number c 9;
  places = number c 10;
  ints = number c 11;
  exts = number c 12;
  least = number c 13;
  marked = number c 14;
}
