-- `records::form_of` meets its contract: a byte that is not 0 is a successor. Assumes nothing.
use mathlib.Core.Path.{◌≡◌, refl}
use Prim.Native.Nat.{ℕ, zero, suc}
use Rattle.message.specs.declared.Form.TheVariants.{Other}
use Rattle.records.specs.Records.{form_of}
use Rattle.records.proofs.form_of.Goals as goal

other : (b : ℕ) → (b ≡ 0 → ⊥) → Other ≡ form_of b
other zero n = absurd (n refl)
other (suc b) n = refl

pub returns-else-b-eq0 : goal.returns-else-b-eq0
returns-else-b-eq0 c = other _ c.if-b-eq0.false
