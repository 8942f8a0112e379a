-- `message::blank` meets its contract: both rows of zeros that are made are `zeros`. Assumes nothing.
use mathlib.Core.Path.{refl}
use Rattle.numbers.specs.Bytes.{zeros}
use Rattle.message.proofs.blank.Goals as goal

pub returns : goal.returns
unfolding zeros
returns c = refl
