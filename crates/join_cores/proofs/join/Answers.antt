-- `join_cores::join` meets its contract: the join of crate `merging`, and the number of its code. Assumes nothing.
use Rattle.join_cores.proofs.join.Goals as goal

pub number_of-requires : goal.number_of-requires
number_of-requires c = tt

pub returns : goal.returns
returns c = (c.join-code.result, c.number_of.ensures, c.join-code.ensures)
