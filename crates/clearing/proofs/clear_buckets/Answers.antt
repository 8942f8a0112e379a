-- `clearing::clear_buckets` meets its contract: one repeat expression. Assumes nothing.
use mathlib.Core.Path.{refl}
use Rattle.clearing.proofs.clear_buckets.Goals as goal

pub returns : goal.returns
returns c = refl
