-- `answers::put_refusal` meets its contract: code 0 puts nothing, any other the line of the refusal (proofs/Lines.antt). Assumes nothing.
use Rattle.answers.proofs.Lines.{puts_silent, puts_spoken}
use Rattle.answers.proofs.put_refusal.Goals as goal

pub returns-then-code-eq0 : goal.returns-then-code-eq0
returns-then-code-eq0 c = let a = c.args in puts_silent a.number a.code a.at _ c.if-code-eq0.true

pub returns : goal.returns
returns c =
    let a = c.args in
    puts_spoken a.number a.code c.if-code-eq0.false c.put_add.ensures
