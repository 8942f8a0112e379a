-- `Group::set_up` meets its contract: a fresh group of the size that a set-up gives (proofs/SetUp.antt). Assumes nothing.
use Rattle.groups.proofs.SetUp.{set_up_lem}
use Rattle.groups.proofs.group.Group.set_up.Goals as goal

pub returns : goal.returns
returns c =
    set_up_lem c.args.s c.fresh.result c.slots_for-size.ensures c.fresh.ensures
