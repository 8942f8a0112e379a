-- What the contract of a group's set-up cites: what it gives, with its code as a number. Assumes nothing.
use Rattle.std.specs.Prelude.{◌≡◌, cond, ℕ}
use Rattle.rules.specs.Calls as calls
use Rattle.message.specs.Real.{Real}
use Rattle.slots.specs.Table.{Table}
use Rattle.slots.specs.Meant.{meant}
use Rattle.slots.specs.Good.{Good}
use Rattle.slots.specs.Join.{fresh_t}

-- "S slots (1 to 64)"; "a refused set-up gives a fresh one of size 1"
pub record SetsUp (S r : ℕ) (t : Table) : Type 0 where
  pub good : Good t
  pub ruled : record { code = r; after = meant t } ≡ calls.set_up_group Real S
  pub exactly : t ≡ fresh_t (cond (calls.within 1 64 S) S 1)
