-- `changes::begin` meets its contract: the core does what the column model does, and that is the rule (crate buffer_rules, TransactRule).
-- Assumes nothing.
use Rattle.buffer_rules.proofs.TransactRule.{begin_is, begin_good}
use Rattle.buffers.specs.Buffers.{cols_of}
use Rattle.changes.proofs.Answers.{gives}
use Rattle.changes.proofs.begin.Goals as goal

pub returns : goal.returns
returns c =
    let k = cols_of c.args.buffer in
    gives c.begin-code.result _ c.begin-code.ensures (begin_is k c.requires) (begin_good k c.requires)
