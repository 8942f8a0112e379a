-- A message record spread over columns, one row a message: the record is kept as it was handed over. Assumes nothing.
use Rattle.std.specs.Prelude.{false, List, ℕ, zero, suc, ◌+◌, ◌*◌, ◌≤◌, ◌<◌, get_or}
use Rattle.columns.specs.Rows.{row_at}
use Rattle.message.specs.declared.Form.{Form}
use Rattle.message.specs.declared.Form.TheVariants.{Standard, Other}
use Rattle.message.specs.declared.Message.{Message}

-- "destination form (standard or other)" as a byte, and back
abbrev pub form_byte : Form → ℕ
form_byte Standard = 0
form_byte Other = 1

abbrev pub form_of : ℕ → Form
form_of zero = Standard
form_of (suc b) = Other

-- the message in row i; "special mark set" is refused by every add, so no message held has it
abbrev pub message_at : (kind form time address hash : List ℕ) → ℕ → Message
message_at kind form time address hash i = record {
  kind = get_or kind i 0;
  special = false;
  form = form_of (get_or form i 0);
  address = row_at address i;
  time = get_or time i 0;
  hash = row_at hash i;
}

-- columns of these lengths have a row i
pub record HasRow (i kinds forms times addresses hashes : ℕ) : Type 0 where
  pub kind : i < kinds
  pub form : i < forms
  pub time : i < times
  pub address : 32 * i + 32 ≤ addresses
  pub hash : 32 * i + 32 ≤ hashes
