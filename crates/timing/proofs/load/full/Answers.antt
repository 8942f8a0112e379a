-- `timing::load::full` meets its contract: every message added leaves a well formed buffer. Assumes nothing.
use Rattle.timing.proofs.load.full.Goals as goal

pub loop-i-init : goal.loop-i-init
loop-i-init c = c.set_up-made.ensures.good

pub add_message-requires : goal.add_message-requires
add_message-requires c = c.loop-i.invariant

pub loop-i-preserved : goal.loop-i-preserved
loop-i-preserved c = c.add_message.ensures.good

pub returns : goal.returns
returns c = c.loop-i.invariant
