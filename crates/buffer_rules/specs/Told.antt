-- All that a buffer means: the store of the rules, and the turns in which its messages arrived. No call shows the turns and the rules have no
-- word for them; but they are what happened, and rows that stand in order of arrival keep them. Assumes nothing.
use Rattle.std.specs.Prelude.{List, ℕ, take}
use Rattle.std.proofs.Math.Option.{Option}
use Rattle.rules.specs.Calls.{Store}
use Rattle.message.specs.Real.{Real}
use Rattle.queues.specs.Cols.{Cols, Half, live, kept, number}
use Rattle.queues.specs.Meant.{if_marked, meant}

-- whose turn it was, message by message: the places of their accounts in the order
abbrev pub turns_of : Half → List ℕ
turns_of h = take h.messages h.owner

pub record Told : Type 0 where
  pub store : Store Real
  pub now : List ℕ
  -- of what was held at begin, while a transaction is open
  pub kept : Option (List ℕ)

abbrev pub told : Cols → Told
told c = record { store = meant c; now = turns_of (live c); kept = if_marked (number c 8) (turns_of (kept c)) }
