-- `cores::remove` meets its contract: the core removes as the column model does, and that is the rule (crate buffer_rules, RemoveRule). Assumes nothing.
use Rattle.buffer_rules.proofs.RemoveRule.{remove_is}
use Rattle.buffer_rules.proofs.RemoveGood.{remove_good}
use Rattle.queues.specs.Cols.{cols}
use Rattle.buffer_cores.proofs.Answers.{gives}
use Rattle.export_buffer.proofs.cores.remove.Goals as goal

pub returns : goal.returns
returns c =
    let a = c.args in
    let k = cols a.owner.now a.kind.now a.form.now a.time.now a.address.now a.hash.now a.accounts.now a.numbers.now in
    gives c.remove-code.result _ _ c.number_of.ensures c.remove-code.ensures (remove_is a.names.now k c.requires) (remove_good a.names.now k c.requires)
