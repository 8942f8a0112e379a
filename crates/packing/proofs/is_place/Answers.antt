-- `packing::is_place` meets its contract: the bound that the four packings share is compared here, and nowhere else. Assumes nothing.
use mathlib.Core.Path.{refl}
use Rattle.packing.proofs.is_place.Goals as goal

pub returns : goal.returns
returns c = refl
