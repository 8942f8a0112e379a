-- `changes::rollback` meets its contract: the core does what the column model does, and that is the rule (crate buffer_rules, TransactRule).
-- Assumes nothing.
use Rattle.buffer_rules.proofs.TransactRule.{rollback_is, rollback_good}
use Rattle.buffers.specs.Buffers.{cols_of}
use Rattle.changes.proofs.Answers.{gives}
use Rattle.changes.proofs.rollback.Goals as goal

pub returns : goal.returns
returns c =
    let k = cols_of c.args.buffer in
    gives c.rollback-code.result _ c.rollback-code.ensures (rollback_is k c.requires) (rollback_good k c.requires)
