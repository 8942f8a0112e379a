-- `collecting::enter` meets its contract: what the two calls leave, where 0 stands for a cell that is not there. Assumes nothing.
use Rattle.collecting.proofs.enter.Goals as goal

pub returns : goal.returns
returns c = record { accounts_are = c.collect_rows.ensures; homes_are = c.collect.ensures 0 }
