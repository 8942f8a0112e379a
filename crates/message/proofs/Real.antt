-- The world of real messages is one that the rules' theorems hold of, and what the code computes of a message is what the rules say of it.
-- Assumes nothing.
use mathlib.Core.Path.{◌≡◌, refl}
use Rattle.numbers.proofs.Bytes.{eq_l_true, eq_l_self}
use Rattle.rules.specs.Queues.{droppable}
use Rattle.demands.proofs.Rows.{Lawful}
use Rattle.message.specs.declared.Filter.{Filter}
use Rattle.message.specs.declared.Filter.TheVariants.{Off, Below}
use Rattle.message.specs.declared.Message.{Message}
use Rattle.message.specs.Records.{drops}
use Rattle.message.specs.Real.{Real, filter_of}

-- accounts are told apart by all their bytes
pub real_lawful : Lawful Real
real_lawful = record { decide = eq_l_true; self = eq_l_self }

-- `drops`, of a kind and a time, is the rules' `droppable` of a message that has them
pub drops_droppable : (f : Filter) (m : Message) → drops f m.kind m.time ≡ droppable Real (filter_of f) m
unfolding droppable
drops_droppable Off m = refl
drops_droppable (Below threshold) m = refl
