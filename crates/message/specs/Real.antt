-- The world of real messages and accounts of 32 bytes: what the rules, stated over any world, are run on. Assumes nothing.
use Rattle.std.specs.Prelude.{List, ℕ, eqb}
use Rattle.numbers.specs.Bytes.{eq_l}
use Rattle.rules.specs.World as world
use Rattle.rules.specs.World.{World, Filter.off, Filter.below}
use Rattle.rules.specs.Calls.{Offer}
use Rattle.message.specs.declared.Filter.{Filter}
use Rattle.message.specs.declared.Filter.TheVariants.{Off, Below}
use Rattle.message.specs.declared.Message.{Message}
use Rattle.message.specs.Records.{account_of}

-- what a collected internal puts on the key list: "(created_lt, hash)"
pub record Key : Type 0 where
  pub lt : ℕ
  pub hash : List ℕ

abbrev pub key_of : Message → Key
key_of m = record { lt = m.time; hash = m.hash }

abbrev pub Real : World
Real = record {
  Acc = List ℕ;
  same = eq_l;
  Msg = Message;
  external = λ m. eqb m.kind 1;
  time = λ m. m.time;
  Key = Key;
  key = key_of;
}

-- a message as it is offered to a buffer
abbrev pub offer : Message → Offer Real
offer m = record {
  special = m.special;
  kind = m.kind;
  acc = account_of m;
  msg = m;
}

abbrev pub filter_of : Filter → world.Filter
filter_of Off = off
filter_of (Below threshold) = below threshold
