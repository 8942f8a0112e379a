-- `timing::run` meets its contract: each fill leaves a well formed buffer, group and set. Assumes nothing.
use Rattle.timing.proofs.run.Goals as goal

pub fill-last-requires : goal.fill-last-requires
fill-last-requires c = c.requires

pub loop-init : goal.loop-init
loop-init c = c.fill-last.ensures

pub fill-last-requires-in-loop : goal.fill-last-requires-in-loop
fill-last-requires-in-loop c = c.requires

pub loop-preserved : goal.loop-preserved
loop-preserved c = c.fill-last-in-loop.ensures

pub returns : goal.returns
returns c = c.loop.invariant
