-- `changes::remove` meets its contract: the core removes as the column model does, and that is the rule (crate
-- buffer_rules, RemoveRule). Assumes nothing.
use Rattle.buffer_rules.proofs.RemoveRule.{remove_is}
use Rattle.buffer_rules.proofs.RemoveGood.{remove_good}
use Rattle.buffers.specs.Buffers.{cols_of}
use Rattle.changes.proofs.Answers.{gives}
use Rattle.changes.proofs.remove.Goals as goal

pub returns : goal.returns
returns c =
    let k = cols_of c.args.buffer in
    gives c.remove-code.result _ c.remove-code.ensures (remove_is c.args.names.now k c.requires) (remove_good c.args.names.now k c.requires)
