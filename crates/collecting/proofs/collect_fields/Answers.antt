-- `collecting::collect_fields` meets its contract: what the three calls leave, where 0 stands for a cell that is not there. Assumes nothing.
use Rattle.collecting.proofs.collect_fields.Goals as goal

pub returns : goal.returns
returns c = record { kinds = c.collect.ensures 0; forms = c.collect-2.ensures 0; times = c.collect-3.ensures 0 }
