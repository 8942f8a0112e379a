-- What a walk gives: an account or a message, if there is one. The rules' Option stands on the left, the code's on the right. Assumes nothing.
use Rattle.std.specs.Prelude.{List, ℕ, Option, None, Some}
use Rattle.std.proofs.Math.Option as rules
use Rattle.std.proofs.Math.Option.{none, some}
use Rattle.message.specs.declared.Message.{Message}

abbrev pub seen : {A : Type 0} → rules.Option A → Option A
seen none = None
seen (some x) = Some x

abbrev pub seen_account : rules.Option (List ℕ) → Option (List ℕ)
seen_account found = seen found

abbrev pub seen_message : rules.Option Message → Option Message
seen_message found = seen found
