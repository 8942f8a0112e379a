-- `cores::add` meets its contract: the core adds as the column model does, and that is the rule (crate buffer_rules, AddRule). Assumes nothing.
use mathlib.Core.Path.{ap, ◌∙◌}
use Rattle.message.specs.declared.Message.{Message}
use Rattle.buffer_rules.proofs.AddRule.{add_is}
use Rattle.buffer_rules.proofs.AddGood.{add_good}
use Rattle.queues.specs.Cols.{cols}
use Rattle.queues.specs.Append.{add_c}
use Rattle.export_parts.specs.Parts.{message_of}
use Rattle.buffer_cores.proofs.Answers.{gives}
use Rattle.export_buffer.proofs.cores.add.Goals as goal

pub returns : goal.returns
returns c =
    let made = c.message_of-m.ensures in
    let a = c.args in
    let k = cols a.owner.now a.kind.now a.form.now a.time.now a.address.now a.hash.now a.accounts.now a.numbers.now in
    let m = message_of a.to.now a.hashed.now a.sent a.sort a.special a.shape in
    gives c.add-code.result _ _ c.number_of.ensures (c.add-code.ensures ∙ ap (λ (x : Message). add_c x k) made.message)
    (add_is m k c.requires made.address made.hash) (add_good m k c.requires made.address made.hash)
