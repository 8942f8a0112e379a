-- `filling::fill` meets its contract: the columns of the three values are lent to the fill (crate fills). Assumes nothing.
use Rattle.filling.proofs.fill.Goals as goal

pub fill-a-requires : goal.fill-a-requires
fill-a-requires c =
    c.requires

pub returns : goal.returns
returns c =
    c.fill-a.ensures
