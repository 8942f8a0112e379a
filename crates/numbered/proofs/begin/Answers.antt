-- `numbered::begin` meets its contract: the columns made one by one are the value (proofs/Parts.antt). Assumes nothing.
use Rattle.entry.specs.Entry.{sayings}
use Rattle.works.specs.Begin.{accounts, held, slots}
use Rattle.numbered.proofs.Parts.{begun}
use Rattle.numbered.proofs.begin.Goals as goal

pub returns : goal.returns
returns c =
    let a = c.args in
    begun (accounts a.order.now a.places a.group.now a.homes.now a.members)
    (held a.owner.now a.kind.now a.time.now a.n)
    (slots a.ints.now a.exts.now a.number.now a.buckets)
    (sayings a.set.now a.k a.names.now a.verdicts.now a.costs.now a.rows a.default)
    a.filter a.height
    c.homes_of-h.result
    c.judge_all-j.result
    c.rows_of-r.result
    c.together.result
    c.homes_of-h.ensures
    c.judge_all-j.ensures
    c.rows_of-r.ensures
    c.together.ensures
