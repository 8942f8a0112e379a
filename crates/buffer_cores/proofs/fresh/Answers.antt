-- `fresh` meets its contract: every column is one repeat expression. Assumes nothing.
use mathlib.Core.Path.{refl}
use Rattle.buffers.specs.Buffers.{fresh_c}
use Rattle.buffer_cores.proofs.fresh.Goals as goal

pub returns : goal.returns
unfolding fresh_c
returns c = refl
