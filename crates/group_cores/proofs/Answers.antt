-- What a set-up of lent columns gives, from what crate groups proves of one by value. Assumes nothing.
use mathlib.Core.Path.{◌≡◌, sym, subst}
use Prim.Native.Nat.{ℕ}
use Rattle.message.specs.Answers.{Code, number as number_of}
use Rattle.sizes.specs.declared.Slots.{Slots}
use Rattle.sizes.specs.Sizes.{slots_for}
use Rattle.slots.specs.Table.{Table}
use Rattle.slots.specs.Join.{fresh_t}
use Rattle.groups.specs.declared.group.Group.{Group}
use Rattle.groups.specs.Groups as groups
use Rattle.groups.proofs.SetUp as by-groups
use Rattle.group_cores.specs.Told.{SetsUp}

-- ---- set-up

-- the group by value of these columns
abbrev held : Table → Group
held t = record {
  number = t.number;
  ints = t.ints;
  exts = t.exts;
  accounts = t.accounts;
  home = t.home;
  owner = t.owner;
  kind = t.kind;
  form = t.form;
  time = t.time;
  address = t.address;
  hash = t.hash;
  buckets = t.buckets;
  numbers = t.numbers;
}

by_value : (S : ℕ) (code : Code) (t : Table) {r : ℕ} → r ≡ number_of code → groups.SetsUp S code (held t) → SetsUp S r t
by_value S code t e g = subst (λ (n : ℕ). SetsUp S n t) (sym e) (record { good = g.good; ruled = g.ruled; exactly = g.exactly })

pub set_up_lem : (S : ℕ) {z : Slots} {t : Table} {r : ℕ} → z ≡ slots_for S → t ≡ fresh_t z.slots → r ≡ number_of z.code → SetsUp S r t
set_up_lem S {z} {t} p e c = by_value S z.code t c (by-groups.set_up_lem S (held t) p e)
