-- What a well formed group holds is in use, and its columns cleared are those of a fresh group. Assumes nothing.
use mathlib.Core.Path.{◌≡◌}
use mathlib.Core.List.{List, ◌∷◌}
use Prim.Native.Nat.{ℕ, ◌*◌, ◌≤◌}
use native.Mathlib.Omega.{arith}
use lib.ListN.{replicate}
use Rattle.buckets.specs.Cells.{mark}
use Rattle.slots.specs.Table.{Table, table, count}
use Rattle.slots.specs.Good.{Good}
use Rattle.slots.specs.Join.{fresh_t}
use Rattle.clearing.specs.Clear.{InUse, Clear}

module _ (t : Table) (g : Good t) where
  slots_few : count t 1 ≤ 64
  slots_few = omega (arith, g.slots, g.S·high)

  pub slots_in_use : InUse (count t 1) 64 t.number × InUse (count t 1) 64 t.ints × InUse (count t 1) 64 t.exts
  slots_in_use = (
    record { long = g.lengths.number; few = slots_few; past = g.blank.number },
    record { long = g.lengths.ints; few = slots_few; past = g.blank.ints },
    record { long = g.lengths.exts; few = slots_few; past = g.blank.exts },
  )

  pub accounts_in_use : InUse (32 * count t 2) 32768 t.accounts × InUse (count t 2) 1024 t.home
  accounts_in_use = (
    record { long = g.lengths.accounts; few = omega (arith, g.accounts); past = g.blank.accounts },
    record { long = g.lengths.home; few = g.accounts; past = g.blank.home },
  )

  pub messages_in_use : InUse (count t 3) 1024 t.owner × InUse (count t 3) 1024 t.kind × InUse (count t 3) 1024 t.form × InUse (count t 3) 1024 t.time
  messages_in_use = (
    record { long = g.lengths.owner; few = g.messages; past = g.blank.owner },
    record { long = g.lengths.kind; few = g.messages; past = g.blank.kind },
    record { long = g.lengths.form; few = g.messages; past = g.blank.form },
    record { long = g.lengths.time; few = g.messages; past = g.blank.time },
  )

  pub records_in_use : InUse (32 * count t 3) 32768 t.address × InUse (32 * count t 3) 32768 t.hash
  records_in_use = (
    record { long = g.lengths.address; few = omega (arith, g.messages); past = g.blank.address },
    record { long = g.lengths.hash; few = omega (arith, g.messages); past = g.blank.hash },
  )

-- the columns together
pub left_fresh : {number ints exts accounts home owner kind form time address hash buckets numbers : List ℕ} (S : ℕ)
    → Clear 64 number × Clear 64 ints × Clear 64 exts → Clear 32768 accounts × Clear 1024 home
    → Clear 1024 owner × Clear 1024 kind × Clear 1024 form × Clear 1024 time → Clear 32768 address × Clear 32768 hash
    → buckets ≡ replicate 1088 mark → numbers ≡ S ∷ replicate 15 0
    → table number ints exts accounts home owner kind form time address hash buckets numbers ≡ fresh_t S
unfolding fresh_t
left_fresh S s a m d b n = λ i. record {
  number = s.0 i;
  ints = s.1 i;
  exts = s.2 i;
  accounts = a.0 i;
  home = a.1 i;
  owner = m.0 i;
  kind = m.1 i;
  form = m.2 i;
  time = m.3 i;
  address = d.0 i;
  hash = d.1 i;
  buckets = b i;
  numbers = n i;
}
