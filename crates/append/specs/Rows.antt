-- What writing the next row of an add needs and leaves. Assumes nothing.
use Rattle.std.specs.Prelude.{◌≡◌, List, ℕ, ◌*◌, ◌<◌, set}
use Rattle.columns.specs.Laid.{laid_at}
use Rattle.message.specs.declared.Message.{Message}
use Rattle.records.specs.Records.{form_byte}

pub record Writable (n seat : ℕ) : Type 0 where
  pub row : n < 2048
  pub short : seat < 65536

-- the six columns with the message in row n
pub record Written (m : Message) (seat n : ℕ) (owner₀ kind₀ form₀ time₀ address₀ hash₀ owner' kind' form' time' address' hash' : List ℕ) : Type 0 where
  pub owner : owner' ≡ set owner₀ n seat
  pub kind : kind' ≡ set kind₀ n m.kind
  pub form : form' ≡ set form₀ n (form_byte m.form)
  pub time : time' ≡ set time₀ n m.time
  pub address : address' ≡ laid_at (32 * n) m.address address₀
  pub hash : hash' ≡ laid_at (32 * n) m.hash hash₀
