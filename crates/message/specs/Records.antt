-- A message record read: its account, the fresh record, and whether the filter drops it. Assumes nothing.
use Rattle.std.specs.Prelude.{Bool, false, ◌&&◌, List, ℕ, eqb, ltb}
use Rattle.numbers.specs.Bytes.{zeros}
use Rattle.message.specs.declared.Form.{Form}
use Rattle.message.specs.declared.Form.TheVariants.{Standard, Other}
use Rattle.message.specs.declared.Filter.{Filter}
use Rattle.message.specs.declared.Filter.TheVariants.{Off, Below}
use Rattle.message.specs.declared.Message.{Message}

-- "The account is the 32 address bytes; of another form it is 32 zero bytes"
abbrev pub account_by : Form → List ℕ → List ℕ
account_by Standard address = address
account_by Other address = zeros

abbrev pub account_of : Message → List ℕ
account_of m = account_by m.form m.address

-- the fresh record
abbrev pub blank_message : Message
blank_message = record {
  kind = 0;
  special = false;
  form = Standard;
  address = zeros;
  time = 0;
  hash = zeros;
}

-- "Droppable: the filter is on, kind external, chain time strictly below the threshold", of a kind and a time
abbrev pub drops : Filter → ℕ → ℕ → Bool
drops Off kind time = false
drops (Below threshold) kind time = eqb kind 1 && ltb time threshold
