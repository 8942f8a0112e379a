-- `settling::settle` meets its contract: key list and set, group and buffer one after the other (proofs/Ends.antt). Assumes nothing.
use Rattle.settling.proofs.Ends.{may_tell, may_settle_group, settled}
use Rattle.settling.proofs.settle.Goals as goal

pub tell-ints-requires : goal.tell-ints-requires
tell-ints-requires c = may_tell c.requires

pub settle_group-requires : goal.settle_group-requires
settle_group-requires c = record { may_settle_group = may_settle_group c.requires.group; ints_value = c.tell-ints.ensures.keys.count }

pub settle_buffer-requires : goal.settle_buffer-requires
settle_buffer-requires c = c.requires.buffer

pub returns : goal.returns
returns c = settled _ c.tell-ints.ensures c.settle_group.ensures c.settle_buffer.ensures
