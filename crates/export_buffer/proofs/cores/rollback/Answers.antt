-- `cores::rollback` meets its contract: the core does what the column model does, and that is the rule (crate buffer_rules, TransactRule). Assumes nothing.
use Rattle.buffer_rules.proofs.TransactRule.{rollback_is, rollback_good}
use Rattle.queues.specs.Cols.{cols}
use Rattle.buffer_cores.proofs.Answers.{gives}
use Rattle.export_buffer.proofs.cores.rollback.Goals as goal

pub returns : goal.returns
returns c =
    let a = c.args in
    let k = cols a.owner.now a.kind.now a.form.now a.time.now a.address.now a.hash.now a.accounts.now a.numbers.now in
    gives c.rollback-code.result _ _ c.number_of.ensures c.rollback-code.ensures (rollback_is k c.requires) (rollback_good k c.requires)
