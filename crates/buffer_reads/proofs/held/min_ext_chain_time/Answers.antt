-- `min_ext_chain_time` meets its contract: an absent minimum reads as the greatest number (proofs/Looks.antt). Assumes nothing.
use Rattle.rules.specs.World.{most}
use Rattle.buffer_reads.proofs.Looks.{least_is, least_absent}
use Rattle.buffer_reads.proofs.held.min_ext_chain_time.Goals as goal

pub returns-then-numbers-ne0 : goal.returns-then-numbers-ne0
returns-then-numbers-ne0 c = least_is _ _ c.if-numbers-ne0.true

pub returns-else-numbers-ne0 : goal.returns-else-numbers-ne0
unfolding most
returns-else-numbers-ne0 c = least_absent _ _ c.if-numbers-ne0.false
