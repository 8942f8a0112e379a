-- What a row says, cell by cell: a flag, a message, what a fill is asked for. Assumes nothing.
use mathlib.Core.Path.{◌≡◌}
use mathlib.Core.Bool.{false, cond}
use mathlib.Core.List.{List}
use Prim.Native.Nat.{ℕ, ◌*◌, ◌+◌}
use lib.Dec.{eqb}
use lib.ListN.{get_or}
use borrow.Author.Tests.{eq-eqb, ne_eqb}
use Rattle.rules.specs.World.{Filter.off, Filter.below}
use Rattle.message.specs.declared.Filter.TheVariants.{Off, Below}
use Rattle.message.specs.declared.Form.TheVariants.{Standard}
use Rattle.message.specs.declared.Message.{Message}
use Rattle.words.specs.Digits.{name_of}
use Rattle.sheet_rows.specs.Answer.{message_at, args_at}
use Rattle.sheet_rows.specs.Asking.{Asks}

-- a flag is 0 or 1
pub flag_0 : {k n : ℕ} → n ≡ 0 → k ≡ 0 → k ≡ cond (eqb n 0) 0 1
flag_0 {k} {n} z e = rw (eq-eqb n 0 z) e

pub flag_1 : {k n : ℕ} → (n ≡ 0 → ⊥) → k ≡ 1 → k ≡ cond (eqb n 0) 0 1
flag_1 {k} {n} d e = rw (ne_eqb n 0 d) e

-- the message of a row
pub message_made : (cells : List ℕ) (i : ℕ) {kind : ℕ} {address hash : List ℕ} → kind ≡ cond (eqb (get_or cells (3 * i) 0) 0) 0 1
    → address ≡ name_of (get_or cells (3 * i + 2) 0) → hash ≡ name_of (i + 1)
    → ◌≡◌ {A = Message} (record { kind = kind; special = false; form = Standard; address = address; time = get_or cells (3 * i + 1) 0; hash = hash }) (message_at cells i)
unfolding message_at
message_made cells i a b c =
    λ k. record { kind = a k; special = false; form = Standard; address = b k; time = get_or cells (3 * i + 1) 0; hash = c k }

-- what a row of numbers asks for
pub asked_off : (cells : List ℕ) (i : ℕ) → get_or cells (4 * i + 2) 0 ≡ 0
    → Asks cells i (record { slots = get_or cells (4 * i) 0; height = get_or cells (4 * i + 1) 0; filter = Off; cost = 0 })
unfolding args_at
asked_off cells i e rows =
    let same : off ≡ cond (eqb (get_or cells (4 * i + 2) 0) 0) off (below (get_or cells (4 * i + 3) 0)) = rw (eq-eqb (get_or cells (4 * i + 2) 0) 0 e) in
    λ k. record { asked = get_or cells (4 * i) 0; height = get_or cells (4 * i + 1) 0; filter = same k; rows = rows; cost = 0 }

pub asked_below : (cells : List ℕ) (i : ℕ) → (get_or cells (4 * i + 2) 0 ≡ 0 → ⊥)
    → Asks cells i (record { slots = get_or cells (4 * i) 0; height = get_or cells (4 * i + 1) 0; filter = Below (get_or cells (4 * i + 3) 0); cost = 0 })
unfolding args_at
asked_below cells i d rows =
    let same : below (get_or cells (4 * i + 3) 0) ≡ cond (eqb (get_or cells (4 * i + 2) 0) 0) off (below (get_or cells (4 * i + 3) 0)) = rw (ne_eqb (get_or cells (4 * i + 2) 0) 0 d) in
    λ k. record { asked = get_or cells (4 * i) 0; height = get_or cells (4 * i + 1) 0; filter = same k; rows = rows; cost = 0 }
