-- What is seen of messages in lent columns of a group. `ns` are the sixteen numbers. Assumes nothing.
use Rattle.std.specs.Prelude.{cond, List, ℕ, Option, ltb, get_or}
use Rattle.std.proofs.Math.Option.{none, some}
use Rattle.message.specs.declared.Message.{Message}
use Rattle.message.specs.Seen.{seen_message}
use Rattle.records.specs.Records.{message_at}
use Rattle.queues.specs.Look.{row_of, seat_of}

-- the row of the k-th message of an account
abbrev pub row_for : (accounts owner ns x : List ℕ) → ℕ → ℕ
row_for accounts owner ns x k = row_of owner (get_or ns 3 0) (seat_of accounts (get_or ns 2 0) x) k

-- the message in a row below the messages held
abbrev pub message_found : (kind form time address hash ns : List ℕ) → ℕ → Option Message
message_found kind form time address hash ns row = seen_message (cond (ltb row (get_or ns 3 0)) (some (message_at kind form time address hash row)) none)
