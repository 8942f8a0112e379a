-- `cores::commit` meets its contract: the core touches the numbers alone. Assumes nothing.
use mathlib.Core.Path.{ap, ◌∙◌}
use Rattle.message.specs.Answers.{number as number_of}
use Rattle.export_buffer.proofs.cores.commit.Goals as goal

pub returns : goal.returns
returns c =
    record { code = c.number_of.ensures ∙ ap number_of c.commit-code.ensures.code; numbers = c.commit-code.ensures.numbers }
