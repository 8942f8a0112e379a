-- `settling::settle_group` meets its contract: rows, members, slots and numbers one after the other (proofs/Ends.antt). Assumes nothing.
use Rattle.settling.proofs.Ends.{may_take, may_enter, may_count, group_settled}
use Rattle.settling.proofs.settle_group.Goals as goal

pub take_rows-requires : goal.take_rows-requires
take_rows-requires c = may_take c.requires.may_settle_group

pub enter-requires : goal.enter-requires
enter-requires c =
    let e = may_enter c.requires.may_settle_group in
    record { takes_rows = e.0; takes = e.1 }

pub renumber-requires : goal.renumber-requires
renumber-requires c = c.requires.may_settle_group.slots_fit

pub count_in-requires : goal.count_in-requires
count_in-requires c = may_count c.requires.may_settle_group _ c.requires.ints_value

pub returns : goal.returns
returns c =
    let p = c.requires in
    group_settled p.may_settle_group c.take_rows.ensures c.enter.ensures c.renumber.ensures _ _ _ p.ints_value c.from.ensures
    c.count_in.ensures
