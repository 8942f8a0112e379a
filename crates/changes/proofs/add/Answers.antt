-- `changes::add` meets its contract: the core adds as the column model does, and that is the rule (crate buffer_rules, AddRule). Assumes
-- nothing.
use borrow.Author.Rules.{rules}
use mathlib.Core.Path.{◌≡◌}
use lib.ListN.{length}
use Rattle.buffer_rules.proofs.AddRule.{add_is}
use Rattle.buffer_rules.proofs.AddGood.{add_good}
use Rattle.buffers.specs.Buffers.{cols_of}
use Rattle.changes.proofs.Answers.{gives}
use Rattle.changes.proofs.add.Goals as goal

pub returns : goal.returns
returns c =
    let m = c.args.m in
    let k = cols_of c.args.buffer in
    -- the arrays of a message are as long as their types say
    let address : length m.address ≡ 32 = search rules in
    let hash : length m.hash ≡ 32 = search rules in
    gives c.add-code.result _ c.add-code.ensures (add_is m k c.requires address hash) (add_good m k c.requires address hash)
