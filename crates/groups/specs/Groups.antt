-- What the public contracts of a group cite: its columns, when it is well formed, and what a set-up gives. Assumes nothing.
use Rattle.std.specs.Prelude.{◌≡◌, cond, ℕ}
use Rattle.rules.specs.Calls as calls
use Rattle.message.specs.Answers.{Code, number as number_of}
use Rattle.message.specs.Real.{Real}
use Rattle.slots.specs.Table.{Table}
use Rattle.slots.specs.Meant.{meant}
use Rattle.slots.specs.Good.{Good}
use Rattle.slots.specs.Join.{fresh_t}
use Rattle.groups.specs.declared.group.Group.{Group}

abbrev pub table_of : Group → Table
table_of g = record {
  number = g.number;
  ints = g.ints;
  exts = g.exts;
  accounts = g.accounts;
  home = g.home;
  owner = g.owner;
  kind = g.kind;
  form = g.form;
  time = g.time;
  address = g.address;
  hash = g.hash;
  buckets = g.buckets;
  numbers = g.numbers;
}

-- well formed, which every call leaves; of the closed group (crate lintelsong) "a contract may rely on that alone"
abbrev pub GoodGroup : Group → Type 0
GoodGroup g = Good (table_of g)

-- ---- set-up: "S slots (1 to 64)"; "a refused set-up gives a fresh one of size 1"

pub record SetsUp (S : ℕ) (code : Code) (g : Group) : Type 0 where
  pub good : GoodGroup g
  pub ruled : record { code = number_of code; after = meant (table_of g) } ≡ calls.set_up_group Real S
  pub exactly : table_of g ≡ fresh_t (cond (calls.within 1 64 S) S 1)
