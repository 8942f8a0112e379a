-- `Skipped::contains` meets its contract: an account is found below the accounts held if it is among them (proofs/Walk.antt). Assumes nothing.
use mathlib.Core.Path.{ap, ◌∙◌}
use Prim.Native.Nat.{ℕ}
use lib.Dec.{ltb}
use Rattle.skipped.proofs.Walk.{has_row}
use Rattle.skipped.proofs.Skipped.contains.Goals as goal

pub returns : goal.returns
returns c = let s = c.args.self in ap (λ (k : ℕ). ltb k s.held) c.find_row.ensures ∙ has_row c.args.name s.held s.accounts
