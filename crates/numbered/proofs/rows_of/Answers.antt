-- `numbered::rows_of` meets its contract: the owners are copied, the classes laid and the queues chained, over fresh columns. Assumes nothing.
use native.Mathlib.Omega.{arith}
use Rattle.works.specs.Begin.{held}
use Rattle.numbered.proofs.Parts.{rows_are}
use Rattle.numbered.proofs.rows_of.Goals as goal

pub link-requires : goal.link-requires
link-requires c =
    let p = c.requires in record { n_in_bounds = (omega (arith, p.n_fits), p.n_fits); by_index = p.owned }

pub returns : goal.returns
returns c =
    let a = c.args in
    rows_are a.filter (held a.owner.now a.kind.now a.time.now a.n) _ _ _
    c.own.ensures c.classify.ensures c.link.ensures
