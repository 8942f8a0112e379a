-- `sheets::put_left` meets its contract: the counts and the minimum are those of what the buffer means. Assumes nothing.
use Rattle.sheets.proofs.Playing.{left_told}
use Rattle.sheets.proofs.put_left.Goals as goal

pub returns : goal.returns
returns c = left_told _ c.counts-held.ensures c.min_ext_chain_time-least.ensures c.put_left.ensures
