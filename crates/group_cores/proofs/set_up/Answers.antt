-- `set_up` meets its contract: the columns are fresh, with the room and the code of the size asked for (proofs/Answers.antt). Assumes nothing.
use Rattle.group_cores.proofs.Answers.{set_up_lem}
use Rattle.group_cores.proofs.set_up.Goals as goal

pub returns : goal.returns
returns c =
    set_up_lem c.args.s c.slots_for-size.ensures c.fresh.ensures c.number_of.ensures
