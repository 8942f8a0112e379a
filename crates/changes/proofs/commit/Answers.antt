-- `changes::commit` meets its contract: the core touches the numbers alone, and that is the rule (crate buffer_rules, TransactRule). Assumes
-- nothing.
use Rattle.transactions.proofs.Steps.{commit_columns}
use Rattle.buffer_rules.proofs.TransactRule.{commit_is, commit_good}
use Rattle.buffers.specs.Buffers.{cols_of}
use Rattle.changes.proofs.Answers.{gives}
use Rattle.changes.proofs.commit.Goals as goal

pub returns : goal.returns
returns c =
    let k = cols_of c.args.buffer in
    gives c.commit-code.result _ (commit_columns k c.commit-code.result _ c.commit-code.ensures) (commit_is k c.requires) (commit_good k c.requires)
