-- `clearing::clear_numbers` meets its contract: one repeat expression, and the room before it. Assumes nothing.
use mathlib.Core.Path.{refl}
use Rattle.clearing.proofs.clear_numbers.Goals as goal

pub returns : goal.returns
returns c = refl
