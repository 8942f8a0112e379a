-- `positions::position_of` meets its contract: the rule's search is the first place at which the number stands. Assumes nothing.
use mathlib.Core.Path.{◌∙◌}
use native.Mathlib.Omega.{arith}
use Rattle.positions.proofs.Steps.{found}
use Rattle.positions.proofs.position_of.Goals as goal

pub returns : goal.returns
returns c = c.unwrap_or.ensures ∙ found c.args.number.now c.args.id.0 c.args.slots (omega (arith, c.told-number)) c.first_at.ensures
