-- The columns of a group as one value. Assumes nothing.
use Rattle.std.specs.Prelude.{List, ℕ, get_or}

-- one row a slot, by rising number; one row an account, in the order in which the accounts came, with the position of its slot; one row a
-- message, in order of collection, with the row of its account; the buckets; sixteen numbers
pub record Table : Type 0 where
  pub number : List ℕ
  pub ints : List ℕ
  pub exts : List ℕ
  pub accounts : List ℕ
  pub home : List ℕ
  pub owner : List ℕ
  pub kind : List ℕ
  pub form : List ℕ
  pub time : List ℕ
  pub address : List ℕ
  pub hash : List ℕ
  pub buckets : List ℕ
  pub numbers : List ℕ

-- count k of a group: 0 S, 1 slots held, 2 accounts, 3 messages, 4 internals, 5 externals, 6 the last slot number, 7 whether there is one.
-- The last slot number is not the number of slots: a slot dropped as empty has had its number.
abbrev pub count : Table → ℕ → ℕ
count t k = get_or t.numbers k 0

-- the columns lent, as one value
abbrev pub table : (number ints exts accounts home owner kind form time address hash buckets numbers : List ℕ) → Table
table number ints exts accounts home owner kind form time address hash buckets numbers = record {
  number = number;
  ints = ints;
  exts = exts;
  accounts = accounts;
  home = home;
  owner = owner;
  kind = kind;
  form = form;
  time = time;
  address = address;
  hash = hash;
  buckets = buckets;
  numbers = numbers;
}
