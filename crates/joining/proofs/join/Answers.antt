-- `joining::join` meets its contract: the columns of both groups are lent to the join (crate merging). Assumes nothing.
use Rattle.joining.proofs.join.Goals as goal

pub join-code-requires : goal.join-code-requires
join-code-requires c =
    c.requires

pub returns : goal.returns
returns c = c.join-code.ensures
