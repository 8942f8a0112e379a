-- What is seen in lent columns of a buffer. `ns` are the numbers. Assumes nothing.
use Rattle.std.specs.Prelude.{cond, List, ℕ, Option, ltb, get_or}
use Rattle.std.proofs.Math.Option.{none, some}
use Rattle.columns.specs.Rows.{row_at}
use Rattle.message.specs.declared.Message.{Message}
use Rattle.message.specs.Seen.{seen_account, seen_message}
use Rattle.records.specs.Records.{message_at}
use Rattle.queues.specs.Look.{owned_by, seat_of, row_of}

-- how many messages the seat of an account owns
abbrev pub queued_in : (owner accounts ns x : List ℕ) → ℕ
queued_in owner accounts ns x = owned_by owner (get_or ns 2 0) (seat_of accounts (get_or ns 3 0) x)

-- the account at a place below the accounts held
abbrev pub account_found : (accounts ns : List ℕ) → ℕ → Option (List ℕ)
account_found accounts ns p = seen_account (cond (ltb p (get_or ns 3 0)) (some (row_at accounts p)) none)

-- the message in the k-th row of place p
abbrev pub message_found : (owner kind form time address hash ns : List ℕ) (p k : ℕ) → Option Message
message_found owner kind form time address hash ns p k =
    let row = row_of owner (get_or ns 2 0) p k in
    seen_message (cond (ltb row (get_or ns 2 0)) (some (message_at kind form time address hash row)) none)
