-- `sheet_adds::add` meets its contract: what the buffer answers is told of where it is a refusal (proofs/Adding.antt). Assumes nothing.
use mathlib.Core.Path.{◌∙◌}
use Rattle.sheet_rows.specs.Answer.{added}
use Rattle.sheet_adds.proofs.Adding.{added_told}
use Rattle.sheet_adds.proofs.add.Goals as goal

pub returns : goal.returns
unfolding added
returns c =
    added_told c.args.number c.args.s c.requires.0 c.add_message-a.result.buffer c.add_message-a.ensures.good c.add_message-a.result.code _ c.add_message-a.ensures.ruled c.args.at _
    (rw (c.from-code.ensures ∙ c.number_of.ensures) at c.put_refusal-end.ensures)
