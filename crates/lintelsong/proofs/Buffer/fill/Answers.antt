-- `Buffer::fill` meets its contract: it is that of the fill by value, and demand 3 is a part of that. Assumes nothing.
use Rattle.lintelsong.proofs.Buffer.fill.Goals as goal

pub returns : goal.returns
returns c =
    let f = c.fill-f.ensures in
    record { fills = f; meets_demand3 = f.demand3 }
