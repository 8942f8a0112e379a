-- `set_up` meets its contract: the columns are fresh, of the size that a set-up gives (proofs/Answers.antt). Assumes nothing.
use Rattle.buffer_cores.proofs.Answers.{set_up_lem}
use Rattle.buffer_cores.proofs.set_up.Goals as goal

pub returns : goal.returns
returns c =
    let a = c.args in
    set_up_lem a.m a.a c.size_for-size.ensures c.fresh.ensures c.number_of.ensures
