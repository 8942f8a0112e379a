-- What an export is handed and says in numbers: a test, an account, a message. Assumes nothing.
use Rattle.std.specs.Prelude.{◌≡◌, Bool, true, false, not, List, [], ◌∷◌, ℕ, Option, is_some, unwrap_or, eqb, length}
use Rattle.numbers.specs.Bytes.{zeros}
use Rattle.message.specs.declared.Message.{Message}
use Rattle.message.specs.Records.{blank_message}
use Rattle.records.specs.Records.{form_of, form_byte}

-- a test as a number
abbrev pub bit : Bool → ℕ
bit true = 1
bit false = 0

-- a message by its parts: a mark other than 0 is set, a form other than 0 is not the standard one
abbrev pub message_of : (to hashed : List ℕ) (sent sort special shape : ℕ) → Message
message_of to hashed sent sort special shape = record {
  kind = sort;
  special = not (eqb special 0);
  form = form_of shape;
  address = to;
  time = sent;
  hash = hashed;
}

-- a message made of arrays of 32 bytes
pub record Made (m : Message) (to hashed : List ℕ) (sent sort special shape : ℕ) : Type 0 where
  pub message : m ≡ message_of to hashed sent sort special shape
  pub address : length to ≡ 32
  pub hash : length hashed ≡ 32

-- an account is told: whether there is one, and its bytes, zeros if there is none
pub record Told (r : ℕ) (out : List ℕ) (s : Option (List ℕ)) : Type 0 where
  pub found : r ≡ bit (is_some s)
  pub account : out ≡ unwrap_or s zeros

-- a message is told: its kind, its mark, its form and its time; its address; its hash
pub record Tells (m : Message) (facts to hashed : List ℕ) : Type 0 where
  pub parts : facts ≡ m.kind ∷ bit m.special ∷ form_byte m.form ∷ m.time ∷ []
  pub address : to ≡ m.address
  pub hash : hashed ≡ m.hash

-- and whether there is one; if not, the fresh message is told
pub record ToldMessage (r : ℕ) (facts to hashed : List ℕ) (s : Option Message) : Type 0 where
  pub found : r ≡ bit (is_some s)
  pub message : Tells (unwrap_or s blank_message) facts to hashed
