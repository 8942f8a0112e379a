-- `index::rebuild` meets its contract: the names entered and those that are left together are all names (proofs/Rebuilding.antt). Assumes
-- nothing.
use mathlib.Core.Path.{◌∙◌}
use native.Mathlib.Omega.{arith}
use Rattle.index.proofs.Rebuilding.{rebuild_start, rebuild_step, rebuild_end, same_first}
use Rattle.index.proofs.rebuild.Goals as goal

pub loop-place-init : goal.loop-place-init
loop-place-init c = rebuild_start _ _ _ c.told-numbers c.clear.ensures

pub loop-place-preserved : goal.loop-place-preserved
loop-place-preserved c = rebuild_step c.loop-place.invariant _ (omega arith) c.from.ensures c.link.ensures

pub returns : goal.returns
returns c =
    rebuild_end c.loop-place.invariant (omega arith) ∙ same_first c.args.accounts.now c.args.places _ c.told-numbers c.clear.ensures _
